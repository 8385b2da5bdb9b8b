-- The steps of a range from the last one back to step 1, and the first of them that is in time: the last step that is.
use Prim.Native.Nat.{ℕ, zero, suc, ◌+◌, ◌-◌, ◌≤◌, ◌<◌}
use mathlib.Core.Path.{◌≡◌, refl, ap, subst, ◌∙◌}
use mathlib.Core.Bool.{Bool, true, false, cond}
use mathlib.Core.List.{List, [], ◌∷◌}
use native.Mathlib.Omega.{arith}
use lib.ListN.{length, get_or}
use lib.IntN.{ℤ}
use Rattle.std.specs.declared.iter.Rev.{Rev}
use Rattle.std.specs.declared.ops.Range.{Range}
use Rattle.std.specs.Iterator.{AlwaysYields}
use Rattle.std.specs.List.{find}
use Rattle.std.specs.Option.{MatchOption, unwrap_or}
use Rattle.std.proofs.Common.{Option, Some}
use Rattle.std.proofs.lemmas.Iterator.{YieldsList}
use Rattle.model.specs.Model.{Job, clock, within, last_within_lem}

-- the numbers from n back to 1
abbrev pub down : ℕ → List ℕ
down zero = []
down (suc n) = suc n ∷ down n

-- a step of a range that is gone through from its end
abbrev pub steps_back : Rev (Range ℕ) → Option ℕ → Rev (Range ℕ) → Type 0
steps_back s r t = (t.iter.start ≡ s.iter.start) × MatchOption r ((s.iter.end - s.iter.start ≡ 0) × (t.iter.end ≡ s.iter.end)) (λ x. (0 < s.iter.end - s.iter.start) × (x ≡ t.iter.end) × (s.iter.end ≡ t.iter.end + 1))

gives : (n : ℕ) (s : Rev (Range ℕ)) → s.iter.start ≡ 1 → s.iter.end ≡ n + 1 → AlwaysYields steps_back (λ x. x) s (down n)
gives zero s a b = λ x j p. omega (arith, p.1.0)
gives (suc n) s a b = ((λ j p. omega (arith, p.1.0)), λ x j p. (omega (arith, p.1.1, p.1.2), gives n j (p.0 ∙ a) (omega (arith, p.1.2))))

-- a range from 1 on gives its numbers from the last one back
pub backward : (n : ℕ) (s : Rev (Range ℕ)) → s.iter ≡ record { start = 1; end = n + 1 } → YieldsList steps_back (λ x. x) s (down n)
backward n s e = record { runs = gives n s (ap (λ (r : Range ℕ). r.start) e) (ap (λ (r : Range ℕ). r.end) e) }

-- each of them is at most the last
pub down_most : (n k d : ℕ) → k < length (down n) → get_or (down n) k d ≤ n
down_most zero k d h = absurd (omega arith)
down_most (suc n) zero d h = omega arith
down_most (suc n) (suc k) d h = omega (arith, down_most n k d (omega arith))

-- the first of them that is in time is the last step that is
pub last_found : (job : Job) (life prev : ℤ) (at : ℕ → ℤ) (n : ℕ) → ((s : ℕ) → s ≤ n → at s ≡ clock job s) → unwrap_or (find (λ s. within life prev (at s)) (down n)) 0 ≡ last_within_lem job life prev n
unfolding last_within_lem
last_found job life prev at zero h = refl
last_found job life prev at (suc n) h = go (within life prev (at (suc n))) (within life prev (clock job (suc n))) (ap (within life prev) (h (suc n) (omega arith))) (last_found job life prev at n (λ s l. h s (omega arith)))
  where
    go : (b d : Bool) → b ≡ d → unwrap_or (find (λ s. within life prev (at s)) (down n)) 0 ≡ last_within_lem job life prev n
        → unwrap_or (cond b (Some (suc n)) (find (λ s. within life prev (at s)) (down n))) 0 ≡ cond d (suc n) (last_within_lem job life prev n)
    go b d i e = subst (λ (t : Bool). unwrap_or (cond b (Some (suc n)) (find (λ s. within life prev (at s)) (down n))) 0 ≡ cond t (suc n) (last_within_lem job life prev n)) i (by b)
      where
        by : (t : Bool) → unwrap_or (cond t (Some (suc n)) (find (λ s. within life prev (at s)) (down n))) 0 ≡ cond t (suc n) (last_within_lem job life prev n)
        by true = refl
        by false = e
