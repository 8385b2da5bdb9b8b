-- A part of a list written anew, from one place to another: its places hold what the part holds, and the rest stays.
use Prim.Native.Nat.{ℕ, ◌+◌, ◌-◌, ◌≤◌, ◌<◌}
use mathlib.Core.Path.{◌≡◌, subst, ◌∙◌}
use mathlib.Core.List.{List}
use native.Mathlib.Omega.{arith}
use borrow.Rule.Slice.PartMut.{put_mid}
use lib.ListN.{length, get_or, take, drop, replicate}
use Rattle.base.specs.Filled.{FilledBy}
use Rattle.base.proofs.Filled as filled

-- a part from a to b that holds what `f` says has filled its n places with it
pub filled_from : (w ys : List ℕ) (a b n : ℕ) (f : ℕ → ℕ) → b ≡ a + n → b ≤ length w → length ys ≡ n → ((q : ℕ) → q < n → get_or ys q 0 ≡ f q) → FilledBy (λ (q : ℕ). a + q) f n w (put_mid a (b - a) w ys)
filled_from w ys a b n f e h s g = filled.filled_by w ys a n (b - a) f (omega (arith, e)) (omega (arith, e, h)) s g

-- a part from a to b that is filled with v has v at its n places
pub filled_with : (w ys : List ℕ) (a b v n : ℕ) → b ≡ a + n → b ≤ length w → ys ≡ replicate (length (take (b - a) (drop a w))) v → FilledBy (λ (q : ℕ). a + q) (λ (q : ℕ). v) n w (put_mid a (b - a) w ys)
filled_with w ys a b v n e h f = filled.filled_with w ys v a n (b - a) (omega (arith, e)) (omega (arith, e, h)) f

-- the same places by another name
pub filled_at : {f : ℕ → ℕ} {n : ℕ} {w u : List ℕ} (p r : ℕ → ℕ) → ((y : ℕ) → p y ≡ r y) → FilledBy p f n w u → FilledBy r f n w u
filled_at {f} {n} {w} {u} p r e d =
    record {
      size = d.size;
      done = λ y l. subst (λ (x : ℕ). get_or u x 0 ≡ f y) (e y) (d.done y l);
      rest = λ x h. d.rest x (λ y l z. h y l (z ∙ e y));
    }
