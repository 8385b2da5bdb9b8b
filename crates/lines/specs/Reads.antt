-- What the code's readers answer, in the parsers' terms.
use Rattle.std.specs.Prelude.{◌≡◌, [], Result, Ok, Err}
use Rattle.lines.specs.Parser.{Parsed, good, fault, Parser, Outcome, accepted, refused}
use Rattle.lines.specs.Fault.{number_of_lem}
use Rattle.lines.specs.declared.fault.FaultKind.{FaultKind}
use Rattle.lines.specs.declared.fault.Fault.{Fault}
use Rattle.lines.specs.declared.rows.Lines.{Lines}

module _ {A : Type 0} where
  -- an answer as a parser's: what is left of the text, and the next line's number
  abbrev pub answer : Lines → Result A Fault → Parsed A
  answer left (Ok a) = good a left.rest.now left.line
  answer left (Err f) = fault (number_of_lem f.kind) f.line

  -- the answer r, which leaves `after`, is what the parser gives at what was left before
  abbrev pub Reads : Parser A → Lines → Lines → Result A Fault → Type 0
  Reads p before after r = answer after r ≡ p before.rest.now before.line

  -- an answer to a whole text
  abbrev pub outcome : Result A Fault → Outcome A
  outcome (Ok a) = accepted a
  outcome (Err f) = refused (number_of_lem f.kind) f.line

-- a fault of the line that is next
abbrev pub fault_at : Lines → FaultKind → Fault
fault_at left kind = record { kind = kind; line = left.line }

-- an answer at the end of a text, which leaves nothing
abbrev pub closed : Lines → Result (Unit {0}) Fault → Parsed (Unit {0})
closed left (Ok u) = good u [] left.line
closed left (Err f) = fault (number_of_lem f.kind) f.line

-- an answer whose value is seen through f
abbrev pub seen : {A B : Type 0} → (A → B) → Result A Fault → Result B Fault
seen f (Ok a) = Ok (f a)
seen f (Err e) = Err e
