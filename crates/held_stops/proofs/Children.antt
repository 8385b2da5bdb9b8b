-- The bounds of the first node below a node, by the numbers that the code finds: no below an opening, not removed below a stop. The term tells whether a bound is missing.
use Prim.Native.Nat.{ℕ, ◌+◌, ◌-◌, ◌*◌, ◌<◌, ◌≤◌, max}
use mathlib.Core.Path.{◌≡◌, refl, sym, ap, ap₂, ◌∙◌}
use mathlib.Core.Bool.{Bool, true, false, cond, not}
use mathlib.Core.List.{List, [], ◌∷◌, ◌++◌}
use native.Mathlib.Omega.{arith}
use lib.ListN.{length, get_or}
use Rattle.branch.specs.declared.Bound.{Bound}
use Rattle.branch.specs.declared.Bound.TheVariants.{Missing, Sum}
use Rattle.branch.specs.Lower.{add}
use Rattle.branch.specs.Search.{snoc}
use Rattle.model.specs.Decisions.{accessible}
use Rattle.lane_rows.specs.Layout.{top, lane_limit, inf, suffix_base, lanes_in}
use Rattle.lane_rows.specs.Tables.{Coded, Tables}
use Rattle.lane_rows.specs.Rows.{lane, sum_lanes}
use Rattle.lane_rows.proofs.Lanes.{sum_same}
use Rattle.held_rows.specs.Held.{HeldSheet, plain, no_lane, needs_of_lem, held, seen_by, paid_in, held_sums, held_term, Classed}
use Rattle.held_rows.specs.Rows.{SeenRows}
use Rattle.held_rows.proofs.Numbers.{wide, no_sums_lem, stop_sums}
use Rattle.held_lanes.specs.Places.{most_to, need_count_place, need_class_place}
use Rattle.held_lanes.specs.Tables.{HeldTables, Lasts, term_of}
use Rattle.held_lanes.proofs.Coded.{no_coded, stays_coded}
use Rattle.held_stops.specs.Stops.{ShutSet, stop_lane}
use Rattle.model.proofs.Lower.{add_missing}

-- the bound where these blocks are decided
abbrev pub bound_in : HeldSheet → List (List Bool) → Bound
bound_in sheet ds = add (add (Sum (paid_in sheet ds)) (held_sums sheet ds)) (held_term sheet ds)

-- ---- the term tells

-- the bound is missing where the number g is none of a price; else the sums are y, the term is g, and the bound is the sum of all
pub record Told (sheet : HeldSheet) (ds : List (List Bool)) (g y : ℕ) : Type 0 where
  -- where the term's number is none of a price, the bound is Missing
  pub none : inf ≤ g → bound_in sheet ds ≡ Missing
  -- where the term's number is a price, the part sums are y
  pub sums : g < inf → held_sums sheet ds ≡ Sum y
  pub term : g < inf → held_term sheet ds ≡ Sum g
  pub bound : g < inf → bound_in sheet ds ≡ Sum (paid_in sheet ds + y + g)

module _ (sheet : HeldSheet) (ds : List (List Bool)) (b g y : ℕ) (few : b ≤ lane_limit) (c : Coded b g (held_term sheet ds)) (s : (k : ℕ) → held_term sheet ds ≡ Sum k → held_sums sheet ds ≡ Sum y) where
  there : g < inf → held_term sheet ds ≡ Sum g
  there h = go (held_term sheet ds) c
    where
      go : (e : Bound) → Coded b g e → e ≡ Sum g
      go Missing d = absurd (omega (arith, d, h))
      go (Sum k) d = ap Sum (sym d.0)

  -- a number that stands for the node's term tells its bound, where the part sums are y as long as there is a term
  pub told : Told sheet ds g y
  told =
      record {
        none = λ h. ap (add (add (Sum (paid_in sheet ds)) (held_sums sheet ds))) (go (held_term sheet ds) c h) ∙ add_missing (add (Sum (paid_in sheet ds)) (held_sums sheet ds));
        sums = λ h. s g (there h);
        term = there;
        bound = λ h. ap₂ (λ (x e : Bound). add (add (Sum (paid_in sheet ds)) x) e) (s g (there h)) (there h);
      }
    where
      go : (e : Bound) → Coded b g e → inf ≤ g → e ≡ Missing
      go Missing d h = refl
      go (Sum k) d h = absurd (omega (arith, d.0, d.1, h, few))

-- ---- below an opening

module _ (sheet : HeldSheet) (fit : Classed sheet) (t u v w : List ℕ) (ta : Tables (plain sheet) t) (he : HeldTables sheet u) (bs : List (List Bool)) (n r : ℕ) (ls : Lasts sheet v bs r)
    (ro : SeenRows (plain sheet) w (length bs) (λ (q : ℕ). seen_by sheet bs (get_or sheet.lanes q no_lane)) n) (x : ℕ) (sums : held_sums sheet bs ≡ Sum x) (few : length bs < length sheet.positions) where
  abbrev at : ℕ
  at = length bs

  abbrev most : ℕ
  most = top * (length sheet.positions - (at + 1))

  small : most ≤ lane_limit
  small = omega (arith, ta.few)

  -- the number for the term after a no: the largest over the classes, one level on
  abbrev pub no_term : ℕ
  no_term = most_to (term_of u v (at + 1) r) (length sheet.needs)

  -- the lanes' sum after a no, over the same rows one level on
  abbrev pub no_sum : ℕ
  no_sum = sum_lanes (lanes_in t) (λ (q : ℕ). lane t w suffix_base (at + 1) q n)

  -- the term by classes and the lanes' sum one level on tell the bound after a no
  pub no_told : Told sheet (bs ++ ((false ∷ []) ∷ [])) no_term no_sum
  no_told = told sheet (bs ++ ((false ∷ []) ∷ [])) most no_term no_sum small (no_coded sheet fit u v he ta.few bs r ls x sums few) (no_sums_lem sheet fit t w ta bs n ro few)

  -- ---- below a stop

  module _ (rs : List Bool) (g : ℕ) (next : length rs < held sheet) (coded : Coded most g (held_term sheet (bs ++ ((true ∷ rs) ∷ [])))) where
    -- the number for a stop's term where the next holding part stays: at least that of the classes that need it
    abbrev pub stays_term : ℕ
    stays_term = max g (most_to (λ (i : ℕ). term_of u v (at + 1) r (get_or u (need_class_place (length rs) i) 0)) (get_or u (need_count_place (length rs)) 0))

    -- the lanes are picked by the set of those that the stop is shut to
    picked : (set : ℕ) → ShutSet sheet (snoc rs false) set → (q : ℕ) → q < lanes_in t
        → cond (accessible (needs_of_lem sheet (get_or sheet.lanes q no_lane).class) (snoc rs false)) (lane t w suffix_base at q n) (lane t w suffix_base (at + 1) q n) ≡ stop_lane t w (at + 1) n set q
    picked set b q l =
        let z : at + 1 - 1 ≡ at = omega arith in
        go (accessible (needs_of_lem sheet (get_or sheet.lanes q no_lane).class) (snoc rs false)) ∙ ap₂ (λ (d : Bool) (j : ℕ). cond d (lane t w suffix_base (at + 1) q n) (lane t w suffix_base j q n)) (sym (b q (omega (arith, wide sheet fit t w ta bs n ro)))) (sym z)
      where
        go : (d : Bool) → cond d (lane t w suffix_base at q n) (lane t w suffix_base (at + 1) q n) ≡ cond (not d) (lane t w suffix_base (at + 1) q n) (lane t w suffix_base at q n)
        go true = refl
        go false = refl

    -- the raised term and the sum of the lanes, those of the set shut, tell the bound where the next holding part stays
    pub stays_told : (set : ℕ) → ShutSet sheet (snoc rs false) set → Told sheet (bs ++ ((true ∷ snoc rs false) ∷ [])) stays_term (sum_lanes (lanes_in t) (stop_lane t w (at + 1) n set))
    stays_told set b =
        told sheet (bs ++ ((true ∷ snoc rs false) ∷ [])) most stays_term (sum_lanes (lanes_in t) (stop_lane t w (at + 1) n set)) small (stays_coded sheet fit u v he ta.few bs r ls x sums few rs g next coded)
        (λ k e. stop_sums sheet fit t w ta bs n ro few (snoc rs false) k e
        ∙ ap Sum (sum_same (lanes_in t) (λ (q : ℕ). cond (accessible (needs_of_lem sheet (get_or sheet.lanes q no_lane).class) (snoc rs false)) (lane t w suffix_base at q n) (lane t w suffix_base (at + 1) q n)) (stop_lane t w (at + 1) n set) (picked set b)))
