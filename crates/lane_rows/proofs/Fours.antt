-- A row of the memo, one four of lanes after the other: no four reads what another wrote.
use Prim.Native.Nat.{ℕ, ◌+◌, ◌-◌, ◌*◌, ◌<◌, ◌≤◌, min}
use mathlib.Core.Path.{◌≡◌, refl, ap, subst, ◌∙◌}
use mathlib.Core.List.{List}
use native.Mathlib.Omega.{arith}
use native.Mathlib.Decide.{dec_lt}
use lib.ListN.{get_or}
use Rattle.base.specs.Filled.{FilledBy}
use Rattle.lane_rows.specs.Layout.{lane_count_lem, inf, lanes_in, fours_place}
use Rattle.lane_rows.specs.Rows.{sum_from, sum_lanes, step_of, StepAsks, Stepped, FoursAsks}
use Rattle.lane_rows.proofs.Lanes.{sum_four}

-- the first k fours are written, and their sum is held
pub record Fours (t w₀ w : List ℕ) (d e out k sum : ℕ) : Type 0 where
  -- no more fours are written than the tables have
  pub inside : k ≤ get_or t fours_place 0
  -- the lanes of the first k fours hold the memo's row, and nothing else moved
  pub stored : FilledBy (λ (q : ℕ). out + q) (step_of t w₀ d e out) (k * 4) w₀ w
  -- the sum so far is at most that of as many lanes with the number for Missing
  pub most : sum ≤ k * (4 * inf)
  -- the sum held is that of the lanes of the first k fours
  pub all : sum ≡ sum_lanes (k * 4) (step_of t w₀ d e out)

-- before the first four nothing is written and the sum is 0
pub fours_none : (t w : List ℕ) (d e out : ℕ) → Fours t w w d e out 0 0
unfolding sum_from
fours_none t w d e out = record { inside = omega arith; stored = record { size = refl; done = (λ q l. absurd (omega (arith, l))); rest = λ x f. refl }; most = omega arith; all = refl }

module _ (t w₀ w : List ℕ) (d e out k sum : ℕ) (s : FoursAsks t w₀ d e out) (f : Fours t w₀ w d e out k sum) (h : k < get_or t fours_place 0) where
  -- what a four reads is as it was
  old : (q : ℕ) → q < 4 → get_or w (out + k * 4 - lane_count_lem + q) 0 ≡ get_or w₀ (out - lane_count_lem + (k * 4 + q)) 0
  old q l =
      let z : out + k * 4 - lane_count_lem + q ≡ out - lane_count_lem + (k * 4 + q) = omega (arith, s.asks.behind) in
      ap (λ (x : ℕ). get_or w x 0) z ∙ f.stored.rest (out - lane_count_lem + (k * 4 + q)) (λ y g u. omega (arith, u, h, l, s.asks.behind, s.asks.narrow))

  row : (q : ℕ) → q < 4 → get_or w (d + k * 4 + q) 0 ≡ get_or w₀ (d + (k * 4 + q)) 0
  row q l =
      let z : d + k * 4 + q ≡ d + (k * 4 + q) = omega arith in
      ap (λ (x : ℕ). get_or w x 0) z ∙ f.stored.rest (d + (k * 4 + q)) (λ y g u. omega (arith, u, h, l, s.apart, s.asks.narrow))

  table : (q : ℕ) → get_or t (e + k * 4 + q) 0 ≡ get_or t (e + (k * 4 + q)) 0
  table q = let z : e + k * 4 + q ≡ e + (k * 4 + q) = omega arith in ap (λ (x : ℕ). get_or t x 0) z

  same : (q : ℕ) → q < 4 → step_of t w (d + k * 4) (e + k * 4) (out + k * 4) q ≡ step_of t w₀ d e out (k * 4 + q)
  same q l = (λ i. min (old q l i) (row q l i + table q i))

  -- the next four of lanes may be written: its rows stand within tables and stack, its sums within 31 bits
  pub four_asks : StepAsks 4 t w (d + k * 4) (e + k * 4) (out + k * 4)
  four_asks =
      record {
        some = omega arith;
        narrow = omega arith;
        table = omega (arith, s.table, h, s.asks.narrow);
        row = omega (arith, s.apart, s.room, h, s.asks.narrow, f.stored.size);
        behind = omega (arith, s.asks.behind);
        room = omega (arith, s.room, h, s.asks.narrow, f.stored.size);
        most = λ q l. omega (arith, old q l, s.asks.most (k * 4 + q) (omega (arith, l, h)));
        sums = λ q l. omega (arith, row q l, table q, s.asks.sums (k * 4 + q) (omega (arith, l, h)));
      }

  -- no lane is above the number for a missing price
  low : (q : ℕ) → q < 4 → step_of t w₀ d e out (k * 4 + q) ≤ inf
  low q l = omega (arith, s.asks.most (k * 4 + q) (omega (arith, l, h)))

  module _ (w' : List ℕ) (r : ℕ) (u : Stepped 4 t w w' (d + k * 4) (e + k * 4) (out + k * 4) r) where
    abbrev new : ℕ → ℕ
    new q = step_of t w₀ d e out (k * 4 + q)

    four_sum : r ≡ new 0 + new 1 + new 2 + new 3
    unfolding sum_from
    four_sum = omega (arith, u.sum, same 0 (omega arith), same 1 (omega arith), same 2 (omega arith), same 3 (omega arith))

    -- the sum of one four is at most four times the number for Missing
    pub four_most : r ≤ 4 * inf
    four_most = omega (arith, four_sum, low 0 (omega arith), low 1 (omega arith), low 2 (omega arith), low 3 (omega arith))

    done : (q : ℕ) → q < k * 4 + 4 → get_or w' (out + q) 0 ≡ step_of t w₀ d e out q
    done q l = go (dec_lt q (k * 4))
      where
        go : Dec (q < k * 4) → get_or w' (out + q) 0 ≡ step_of t w₀ d e out q
        go (yes g) = u.stored.rest (out + q) (λ y a z. omega (arith, z, g)) ∙ f.stored.done q g
        go (no g) =
            let z : out + q ≡ out + k * 4 + (q - k * 4) = omega (arith, g) in
            let y : k * 4 + (q - k * 4) ≡ q = omega (arith, g) in
            let x : q - k * 4 < 4 = omega (arith, g, l) in
            ap (λ (i : ℕ). get_or w' i 0) z ∙ u.stored.done (q - k * 4) x ∙ same (q - k * 4) x ∙ ap (step_of t w₀ d e out) y

    -- once the next four is written, one four more is done, and its sum is added
    pub fours_more : Fours t w₀ w' d e out (k + 1) (sum + r)
    fours_more =
        let z : k * 4 + 4 ≡ (k + 1) * 4 = omega arith in
        record {
          inside = omega (arith, h);
          stored = record {
            size = u.stored.size ∙ f.stored.size;
            done = (λ q l. done q (omega (arith, l)));
            rest = λ x g. u.stored.rest x (λ y a b. g (k * 4 + y) (omega (arith, a)) (omega (arith, b))) ∙ f.stored.rest x (λ y a b. g y (omega (arith, a)) b);
          };
          most = omega (arith, f.most, four_most);
          all = omega (arith, f.all, four_sum, sum_four (step_of t w₀ d e out) k, low0) ∙ ap (λ (n : ℕ). sum_lanes n (step_of t w₀ d e out)) z;
        }
      where
        low0 : new 0 ≡ step_of t w₀ d e out (k * 4)
        low0 = let z : k * 4 + 0 ≡ k * 4 = omega arith in ap (step_of t w₀ d e out) z

-- all of them
pub fours_all : (t w₀ w : List ℕ) (d e out k sum : ℕ) → Fours t w₀ w d e out k sum → get_or t fours_place 0 ≤ k → Stepped (lanes_in t) t w₀ w d e out sum
fours_all t w₀ w d e out k sum f h =
    let z : k * 4 ≡ lanes_in t = omega (arith, h, f.inside) in
    subst (λ (n : ℕ). Stepped n t w₀ w d e out sum) z (record { stored = f.stored; sum = f.all })
