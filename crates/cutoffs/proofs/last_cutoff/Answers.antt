-- `last_cutoff`: case by case.
use mathlib.Core.Path.{◌≡◌}
use native.Mathlib.Omega.{arith}
use Rattle.cutoffs.proofs.last_cutoff.Goals as goal

pub returns-in-Some : goal.returns-in-Some
returns-in-Some c = rw c.in-Some.is (record { is = omega arith; small = omega arith })

pub returns-in-None : goal.returns-in-None
returns-in-None c = rw c.in-None.is (record { is = omega arith; small = omega arith })
