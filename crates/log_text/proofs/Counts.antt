-- How many steps are not after a step: as many as stand before the first that is, or all (of steps `first_after`, of openings `before_first`; `first_or_all`). And the job that a struct holds with its first openings alone (`job-to`).
use Rattle.std.specs.List.{position_or_len}
use Prim.Native.Nat.{ℕ, suc, ◌+◌, ◌≤◌}
use mathlib.Core.Path.{◌≡◌, refl, sym, ap, ap₂, ◌∙◌}
use mathlib.Core.Bool.{Bool, true, false, not, cond}
use mathlib.Core.List.{List, [], ◌∷◌, map}
use native.Mathlib.Omega.{arith}
use borrow.Author.Tests.{leb-true, leb-false, le-ltb, lt-ltb}
use lib.Dec.{leb, ltb}
use lib.ListN.{take}
use lib.Seq.{take-take}
pub use Rattle.lines.proofs.Steps.{first_or_all}
use Rattle.model.specs.Windows.{steps_of}
use Rattle.jobs.specs.declared.Part.{Part}
use Rattle.jobs.specs.declared.Opening.{Opening}
use Rattle.jobs.specs.Views.{opening_of, part_of_lem}
use Rattle.carry.specs.Carry.{count_to}
use Rattle.carry.proofs.Splits.{map-take}
use Rattle.log_grammar.specs.Grammar.{part_to}

-- a step is not before another exactly where the other is at most it
not_later : (step s : ℕ) → not (ltb step s) ≡ leb s step
not_later step s = go (leb s step) refl
  where
    go : (t : Bool) → leb s step ≡ t → not (ltb step s) ≡ t
    go true e = rw (le-ltb step s (leb-true s step e)) refl
    go false e = rw (lt-ltb step s (leb-false s step e)) refl

-- as many steps are not after a step as stand before the first that is
pub first_after : (step : ℕ) (ss : List ℕ) → position_or_len (λ (s : ℕ). ltb step s) ss ≡ count_to step ss
unfolding count_to
first_after step [] = refl
first_after step (s ∷ ss) =
    let n = count_to step ss in
    let one : 1 + n ≡ suc n = omega arith in
    ap₂ (λ (b : Bool) (k : ℕ). cond b (1 + k) 0) (not_later step s) (first_after step ss) ∙ ap (λ (k : ℕ). cond (leb s step) k 0) one

-- as many openings stand before the first that is after a step as have steps not after it
pub before_first : (step : ℕ) (os : List Opening) → position_or_len (λ (o : Opening). ltb step o.step) os ≡ count_to step (steps_of (map opening_of os))
unfolding count_to
before_first step [] = refl
before_first step (o ∷ os) =
    let n = count_to step (steps_of (map opening_of os)) in
    let one : 1 + n ≡ suc n = omega arith in
    ap₂ (λ (b : Bool) (k : ℕ). cond b (1 + k) 0) (not_later step o.step) (before_first step os) ∙ ap (λ (k : ℕ). cond (leb o.step step) k 0) one

-- the first n of the first m openings are the first n
pub openings_to : (n m : ℕ) (os : List Opening) → n ≤ m → map opening_of (take n os) ≡ take n (map opening_of (take m os))
openings_to n m os h = ap (map opening_of) (sym (take-take n m os h)) ∙ map-take opening_of n (take m os)

-- the parts held with n prices are those with m, cut to the first n, where n is at most m
pub parts_to : (n m : ℕ) (ps : List Part) → n ≤ m → map (part_of_lem n) ps ≡ map (part_to n) (map (part_of_lem m) ps)
parts_to n m [] h = refl
parts_to n m (p ∷ ps) h =
    let q = sym (take-take n m p.prices h) in
    let r = parts_to n m ps h in
    λ i. record { life = p.life; left = p.left; removal = p.removal; holders = (part_of_lem n p).holders; prices = q i } ∷ r i
