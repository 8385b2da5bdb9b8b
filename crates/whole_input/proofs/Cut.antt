-- A text cut one byte past a limit is the text itself, or both are over the limit. By the text's length.
use Prim.Native.Nat.{ℕ, suc, ◌<◌, ◌≤◌}
use mathlib.Core.Path.{◌≡◌}
use mathlib.Core.List.{List}
use mathlib.Core.Logic.{◌⊎◌, inl, inr}
use native.Mathlib.Omega.{arith}
use native.Mathlib.Decide.{dec_lt}
use lib.ListN.{length, take}
use lib.Seq.{take_all, length-take-le}

-- a text cut a byte behind a limit is the text itself, or both are over the limit
pub cut : (most : ℕ) (s : List ℕ) → (take (suc most) s ≡ s) ⊎ ((most < length (take (suc most) s)) × (most < length s))
cut most s = go (dec_lt most (length s))
  where
    go : Dec (most < length s) → (take (suc most) s ≡ s) ⊎ ((most < length (take (suc most) s)) × (most < length s))
    go (yes h) =
        let kept : length (take (suc most) s) ≡ suc most = length-take-le (suc most) s (omega (arith, h)) in
        inr (omega (arith, kept), h)
    go (no h) =
        let short : length s ≤ suc most = omega (arith, h) in
        inl (take_all (suc most) s short)
