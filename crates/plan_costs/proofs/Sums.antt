-- Sums of what is paid at each place: one place more, and how large they can be.
use Prim.Native.Nat.{ℕ, zero, suc, ◌+◌, ◌*◌, ◌≤◌}
use mathlib.Core.Path.{◌≡◌, refl, ap}
use mathlib.Core.Bool.{Bool, true, false, cond}
use mathlib.Core.List.{List, [], ◌∷◌, map}
use native.Mathlib.Omega.{arith}
use native.Mathlib.Nat.{mul-suc}
use native.Mathlib.Numerals.{add-one}
use lib.ListN.{length}
use Rattle.model.specs.Model.{Opening, Part, sum, sum_at, fee_of, removal_of_lem}
use Rattle.model.specs.Limits.{dearest}
use Rattle.base.specs.Each.{All}
use Rattle.jobs.specs.Valid.{ValidOpening, ValidPrice, ValidPart}
use Rattle.plan_costs.specs.Dearest.{dearest_sum, Cheap}

all_map : {A B : Type 0} (P : A → Type 0) (Q : B → Type 0) (f : A → B) → ((a : A) → P a → Q (f a)) → (l : List A) → All P l → All Q (map f l)
all_map P Q f g [] h = tt
all_map P Q f g (x ∷ l) h = (g x h.0, all_map P Q f g l h.1)

-- the fees of openings, the removals of parts, and the prices of a part
pub cheap_fees : (os : List Opening) → All ValidOpening os → Cheap (map fee_of os)
cheap_fees = all_map ValidOpening (λ (n : ℕ). n ≤ dearest) fee_of (λ o h. h.fee)

-- no removal of a valid job's parts is above the highest that the text allows
pub cheap_removals : (n : ℕ) (ps : List Part) → All (ValidPart n) ps → Cheap (map removal_of_lem ps)
cheap_removals n = all_map (ValidPart n) (λ (x : ℕ). x ≤ dearest) removal_of_lem (λ p h. omega (arith, h.removal))

-- no price of a valid part is above the highest that the text allows
pub cheap_prices : (ns : List ℕ) → All ValidPrice ns → Cheap ns
cheap_prices [] h = tt
cheap_prices (n ∷ ns) h = (h.0.1, cheap_prices ns h.1)

-- a sum at a set is at most the highest number for each place
pub sum_most : (ns : List ℕ) (cs : List Bool) → Cheap ns → sum_at ns cs ≤ dearest * length ns
unfolding sum_at
sum_most ns [] h = omega arith
sum_most [] (c ∷ cs) h = omega arith
sum_most (n ∷ ns) (false ∷ cs) h = omega (arith, sum_most ns cs h.1, mul-suc dearest (length ns))
sum_most (n ∷ ns) (true ∷ cs) h = omega (arith, h.0, sum_most ns cs h.1, mul-suc dearest (length ns))

sum_last : (n from : ℕ) (f : ℕ → ℕ) → sum from (suc n) f ≡ sum from n f + f (from + n)
unfolding sum
sum_last zero from f = let z : from ≡ from + 0 = omega arith in omega (arith, ap f z)
sum_last (suc n) from f = let z : suc from + n ≡ from + suc n = omega arith in omega (arith, sum_last n (suc from) f, ap f z)

-- the sum over no places
pub sum_zero : (f : ℕ → ℕ) → 0 ≡ sum 0 0 f
unfolding sum
sum_zero f = refl

-- what is paid at one place more, added
pub sum_next : (k paid more : ℕ) (f : ℕ → ℕ) → paid ≡ sum 0 k f → more ≡ f k → paid + more ≡ sum 0 (k + 1) f
sum_next k paid more f p m = let z : 0 + k ≡ k = omega arith in rw add-one (omega (arith, p, m, sum_last k 0 f, ap f z))

-- what is paid at a place is a number if the place belongs to the set, else nothing: at most the highest number
pub little : (b : Bool) (n : ℕ) → n ≤ dearest → cond b n 0 ≤ dearest_sum
little true n h = omega (arith, h)
little false n h = omega arith
