-- What lists that agree have of their first part (`first_cover`, `first_prices`), and that its prices are marked (`first_marked`). By the lists' cases.
use Prim.Native.Nat.{ℕ, zero, suc, ◌+◌, ◌-◌, ◌*◌, ◌≤◌, ◌<◌}
use mathlib.Core.Path.{◌≡◌, sym, ◌∙◌}
use mathlib.Core.Bool.{Bool, true, false, cond}
use mathlib.Core.List.{List, [], ◌∷◌}
use native.Mathlib.Omega.{arith}
use lib.Dec.{eqb}
use lib.ListN.{length, get_or, take}
use lib.Seq.{length-take-le}
use Rattle.base.specs.Each.{All}
use Rattle.form_facts.specs.Facts.{PartLists, sum_of, Marked, PartsAgree}
use Rattle.form_facts.proofs.Facts.{marks_few, sum_part}
use Rattle.first_parts.specs.Fronts.{listed_first, pairs_first, FirstCover, FirstPrices}
use Rattle.first_parts.proofs.Places.{listed_here}

held_first : (c : ℕ) (is hs : List ℕ) → c ≤ 1 → c ≤ length is → length hs ≡ sum_of is → cond (eqb c 1) (get_or is 0 0) 0 ≤ length hs
held_first zero is hs h i e = omega arith
held_first (suc zero) [] hs h i e = absurd (omega arith)
held_first (suc zero) (v ∷ is) hs h i e = let q : length hs ≡ v + sum_of is = e in omega (arith, q)
held_first (suc (suc c)) is hs h i e = absurd (omega arith)

-- a number of prices that is none or that of the openings is at most 64
listed_low : (u n : ℕ) → n ≤ 64 → cond (eqb u 1) 0 n ≤ 64
listed_low u n h = go (eqb u 1)
  where
    go : (b : Bool) → cond b 0 n ≤ 64
    go true = omega arith
    go false = h

first : (n : ℕ) (x : PartLists) → n ≤ 64 → PartsAgree n x → 0 < length x.lives → (1 ≤ length x.lefts) × FirstCover x × FirstPrices n x
first n x most h some = go x.lives x.covered x.ruled some h.lefts h.covered h.ruled h.marks h.rule_marks h.removals h.insides h.bases h.drops h.leasts h.prices
  where
    go : (ls cs us : List ℕ) → 0 < length ls → length x.lefts ≡ length ls → length cs ≡ length ls → length us ≡ length ls → All (λ (c : ℕ). c ≤ 1) cs → All (λ (u : ℕ). u ≤ 1) us
        → length x.removals ≡ sum_of cs → length x.insides ≡ sum_of cs → length x.bases ≡ sum_of us → length x.drops ≡ sum_of us → length x.leasts ≡ sum_of us
        → length x.prices ≡ (length ls - sum_of us) * n
        → let y : PartLists = record { lives = ls; lefts = x.lefts; covered = cs; removals = x.removals; insides = x.insides; holders = x.holders; ruled = us; bases = x.bases; drops = x.drops; leasts = x.leasts; banded = x.banded; lows = x.lows; prices = x.prices } in (1 ≤ length x.lefts) × FirstCover y × FirstPrices n y
    go [] cs us some e f g m q a b i j k p = absurd (omega arith)
    go (l ∷ ls) [] us some e f g m q a b i j k p = absurd (omega arith)
    go (l ∷ ls) (c ∷ cs) [] some e f g m q a b i j k p = absurd (omega arith)
    go (l ∷ ls) (c ∷ cs) (u ∷ us) some e f g m q a b i j k p =
        let covers : length x.insides ≡ c + sum_of cs = b in (
          omega (arith, e),
          record {
            covered = omega arith;
            mark = m.0;
            removal = let w : length x.removals ≡ c + sum_of cs = a in omega (arith, w);
            inside = omega (arith, covers);
            holders = held_first c x.insides x.holders m.0 (omega (arith, covers)) h.holders;
          },
          record {
            ruled = omega arith;
            rule_mark = q.0;
            base = let w : length x.bases ≡ u + sum_of us = i in omega (arith, w);
            drop = let w : length x.drops ≡ u + sum_of us = j in omega (arith, w);
            least = let w : length x.leasts ≡ u + sum_of us = k in omega (arith, w);
            prices = (listed_here n u (length ls) (sum_of us) (length x.prices) q.0 (omega (arith, marks_few us q.1, g)) p).0;
            few = listed_low u n most;
            banded = h.banded;
            band_marks = h.band_marks;
            lows = omega (arith, h.lows, sum_part (cond (eqb u 1) 0 n) x.banded);
          },
        )

-- the first part's lines of removal and its prices
pub first_cover : (n : ℕ) (x : PartLists) → n ≤ 64 → PartsAgree n x → 0 < length x.lives → FirstCover x
first_cover n x most h some = (first n x most h some).1

-- the first part's prices as the lists' first entries have them
pub first_prices : (n : ℕ) (x : PartLists) → n ≤ 64 → PartsAgree n x → 0 < length x.lives → FirstPrices n x
first_prices n x most h some = (first n x most h some).2

-- ---- its prices, as they are lent

all_take : (i : ℕ) (zs : List ℕ) → All (λ (z : ℕ). z ≤ 1) zs → All (λ (z : ℕ). z ≤ 1) (take i zs)
all_take zero zs m = tt
all_take (suc i) [] m = tt
all_take (suc i) (z ∷ zs) m = (m.0, all_take i zs m.1)

-- those of the list are marked
pub first_marked : (n : ℕ) (x : PartLists) → FirstPrices n x → Marked (take (listed_first n x) x.banded) x.lows (take (listed_first n x) x.prices)
first_marked n x h = record {
  size = length-take-le (listed_first n x) x.banded (omega (arith, h.prices, h.banded)) ∙ sym (length-take-le (listed_first n x) x.prices h.prices);
  marks = all_take (listed_first n x) x.banded h.band_marks;
  lows = h.lows;
}

-- and at most 64 of them are pairs
pub pairs_few : (n : ℕ) (x : PartLists) → FirstPrices n x → pairs_first n x ≤ 64
pairs_few n x h =
    let listed = length-take-le (listed_first n x) x.banded (omega (arith, h.prices, h.banded)) in
    omega (arith, h.few, listed, marks_few (take (listed_first n x) x.banded) (first_marked n x h).marks)
