-- `put_number` meets its contract: as many digits as `digit_count` says are n's decimal digits.
use mathlib.Core.Path.{sym}
use mathlib.Core.List.{[], ◌∷◌}
use Rattle.line_writing.proofs.Putting.{same, room_same}
use Rattle.line_writing.specs.Undivided.{Undivided}
use Rattle.line_writing.specs.contracts.digits.digit_count.Key.{symbol as #digit-count}
use Rattle.line_writing.specs.contracts.output.Out.put_digits.Key.{symbol as #put-digits}
use Rattle.line_writing.proofs.output.Out.put_number.Code as code
use Rattle.line_writing.proofs.output.Out.put_number.Goals as goal

-- E3. it divides nowhere, and neither does what it calls
undivided : Undivided (#digit-count ∷ #put-digits ∷ []) code.function
undivided = record { divides_nowhere = tt; calls = tt }

pub put_digits-requires : goal.put_digits-requires
put_digits-requires c = let e = c.digit_count.ensures in (e.0, e.1, room_same c.requires.n_in_bounds e.2)

pub returns : goal.returns
returns c = same c.put_digits.ensures (sym c.digit_count.ensures.2)
