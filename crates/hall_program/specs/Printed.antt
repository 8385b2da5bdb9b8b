-- What the hall planner's program says of a text, at the walk number of the planner's program. There is always room for it, so it is never 8.
use Rattle.std.specs.Prelude.{◌≡◌, List, ℕ}
use Rattle.model.specs.Limits.{most_walk}
use Rattle.answers.specs.Said.{Said}
use Rattle.hall_planning.specs.Hall.{hall_said}
use Rattle.std.specs.declared.option.Option.{Option}
use Rattle.text_program.specs.declared.Done.{Done}
use Rattle.text_program.specs.Printed as text
use Rattle.whole_input.specs.declared.Text.TheVariants.{Hall}

-- s is the hall planner's answer to the text at the largest walk number
abbrev pub says : List ℕ → Said → Type 0
says text s = s ≡ hall_said text most_walk

-- what was done is that such an answer to the bytes that were read was printed
abbrev pub Printed : {I : Type 0} → (I → Option (List ℕ)) → Option I → Done → Type 0
Printed remaining input d = text.Printed Hall says remaining input d
