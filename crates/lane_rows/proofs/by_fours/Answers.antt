-- `by_fours` names the number of fours in the call that it makes.
use Prim.Native.Nat.{ℕ}
use mathlib.Core.Path.{◌≡◌, subst}
use mathlib.Core.List.{List}
use native.Mathlib.Omega.{arith}
use Rattle.std.proofs.Common.{rules}
use denote.Ref.{MutBor}
use Rattle.lane_rows.proofs.by_fours.Goals as goal

pub returns-in_default : goal.returns-in_default
returns-in_default g c = let z : 4 ≡ c.args.fours = omega (arith, c.requires.few) in
    subst (λ (n : ℕ). (x : MutBor (List ℕ)) × (x' : MutBor (List ℕ)) × (x.now ≡ c.args.w.now) × (x'.now ≡ c.f-in_default.new.arg3) × goal.F-post g c.args.f n x c.f-in_default.result x') z (search rules)
