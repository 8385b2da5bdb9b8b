-- Where a loop over places ends: all of them are written.
use Prim.Native.Nat.{ℕ}
use mathlib.Core.Path.{◌≡◌, subst}
use mathlib.Core.List.{List}
use Rattle.base.specs.Filled.{Filled}

-- as many places as there are
pub filled_all : {place : ℕ → ℕ} {Right : ℕ → ℕ → Type 0} {i n : ℕ} {t u : List ℕ} → Filled place Right i t u → i ≡ n → Filled place Right n t u
filled_all {place} {Right} {i} {n} {t} {u} f e = subst (λ (k : ℕ). Filled place Right k t u) e f
