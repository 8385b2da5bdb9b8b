-- How the walks ended, read back from what is handed back.
use Prim.Native.Nat.{ℕ}
use mathlib.Core.Path.{◌≡◌, refl, sym}
use mathlib.Core.Bool.{true, false, true≢false}
use native.Mathlib.Omega.{arith}
use Rattle.std.specs.Prelude.{Option, None, Some, Result, Ok, Err}
use Rattle.cutoffs.specs.declared.found.Undercut.{Undercut}
use Rattle.cutoffs.specs.declared.found.Over.{Over}
use Rattle.share_search.specs.Sought.{over_of, cost_of}

-- a cost is that of a plan that was found
pub cost_found : (r : Result (Option Undercut) Over) (k : ℕ) → cost_of r ≡ Some k → (u : Undercut) × (r ≡ Ok (Some u)) × (u.cost ≡ k)
cost_found (Ok (Some u)) k e = (u, refl, cc)
cost_found (Ok None) k e = let z : ◌≡◌ {A = ℕ} 0 1 = cc in absurd (omega arith)
cost_found (Err o) k e = let z : ◌≡◌ {A = ℕ} 0 1 = cc in absurd (omega arith)

-- over is said only where a walk was cut
pub over_found : (r : Result (Option Undercut) Over) → over_of r ≡ true → (o : Over) × (r ≡ Err o)
over_found (Ok x) e = absurd (true≢false (sym e))
over_found (Err o) e = (o, refl)

-- and with neither, the last cutoff was passed
pub none_found : (r : Result (Option Undercut) Over) → cost_of r ≡ None → over_of r ≡ false → r ≡ Ok None
none_found (Ok None) e f = refl
none_found (Ok (Some u)) e f = let z : ◌≡◌ {A = ℕ} 0 1 = cc in absurd (omega arith)
none_found (Err o) e f = absurd (true≢false f)
