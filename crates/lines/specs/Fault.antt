-- What is wrong with a text, in the parsers' terms.
use Rattle.std.specs.Prelude.{ℕ}
use Rattle.lines.specs.declared.fault.FaultKind.{FaultKind}
use Rattle.lines.specs.declared.fault.FaultKind.TheVariants.{TooLong, Form, Range, Step, Left, Visit, Holder, High, Other}

-- R1 to R5, R9, R12, R13. the result number of what is wrong
abbrev pub number_of_lem : FaultKind → ℕ
number_of_lem TooLong = 1
number_of_lem Form = 2
number_of_lem Range = 3
number_of_lem Step = 4
number_of_lem Left = 5
number_of_lem Visit = 9
number_of_lem Holder = 12
number_of_lem High = 13
number_of_lem (Other n) = n
