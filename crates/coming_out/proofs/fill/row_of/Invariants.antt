use Prim.Native.Nat.{ℕ, ◌<◌}
use mathlib.Core.Path.{◌≡◌}
use lib.ListN.{length, get_or}
use Rattle.coming_out.proofs.fill.row_of.Given as goal

abbrev pub invariant-loop-i : goal.invariant-loop-i
invariant-loop-i g l = (length l.place-items ≡ l.m) × ((f : ℕ → g.row.T.Denot) → ((i : ℕ) (x : g.row.T.Denot) → i < l.m → goal.F-post g l.value i x → x ≡ f i) → (k : ℕ) → k < l.i → get_or l.place-items k l.fn.d ≡ f k)
