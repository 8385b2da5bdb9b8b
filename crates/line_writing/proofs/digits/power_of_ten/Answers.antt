-- `lines::power_of_ten` meets its contract: the list holds the powers of ten.
use mathlib.Core.Path.{◌∙◌}
use mathlib.Core.List.{[]}
use native.Mathlib.Nat.{zero-add}
use Rattle.line_writing.proofs.Powers.{powers_at}
use Rattle.line_writing.specs.Undivided.{Undivided}
use Rattle.line_writing.proofs.digits.power_of_ten.Code as code
use Rattle.line_writing.proofs.digits.power_of_ten.Goals as goal

-- E3. it divides nowhere, and neither does what it calls
undivided : Undivided ([]) code.function
undivided = record { divides_nowhere = tt; calls = tt }

pub returns : goal.returns
returns c = powers_at 0 10 c.args.k c.requires ∙ rw zero-add
