-- Where the marks and the end are small, the place behind any number of openings is small too.
use Prim.Native.Nat.{ℕ, suc, ◌<◌}
use mathlib.Core.Path.{sym, subst}
use mathlib.Core.List.{List}
use native.Mathlib.Omega.{arith}
use native.Mathlib.Decide.{dec_lt}
use lib.ListN.{length, get_or, get_or-eq_default}
use lib.IntN.{ℤ, pos}
use Rattle.base.proofs.Bools.{there}
use Rattle.model.specs.LastYes.{mark_in}
use Rattle.base.specs.Signed.{Bits31}

-- the place behind any number of openings is small, the end too
pub place_small : (end first : ℤ) (ss : List ℤ) (k : ℕ) → Bits31 end → ((m : ℕ) → Bits31 (mark_in first ss m)) → Bits31 (get_or ss k end)
place_small end first ss k late small = go (dec_lt k (length ss))
  where
    go : Dec (k < length ss) → Bits31 (get_or ss k end)
    go (yes h) = subst Bits31 (there ss k (pos 0) end h) (small (suc k))
    go (no h) = subst Bits31 (sym (get_or-eq_default ss end {n = k} (omega (arith, h)))) late
