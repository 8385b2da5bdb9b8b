-- What the planner's program says of a text: E10. "4000000000, which the planner program uses". There is always room for it, so it is never 8.
use Rattle.std.specs.Prelude.{◌≡◌, List, ℕ}
use Rattle.model.specs.Limits.{most_walk}
use Rattle.answers.specs.Said.{Said}
use Rattle.planning.specs.Plan.{plan_said}
use Rattle.std.specs.declared.option.Option.{Option}
use Rattle.text_program.specs.declared.Done.{Done}
use Rattle.text_program.specs.Printed as text
use Rattle.whole_input.specs.declared.Text.TheVariants.{Job}

-- s is the planner's answer to the text at the largest walk number
abbrev pub says : List ℕ → Said → Type 0
says text s = s ≡ plan_said text most_walk

-- what was done is that such an answer to the bytes that were read was printed
abbrev pub Printed : {I : Type 0} → (I → Option (List ℕ)) → Option I → Done → Type 0
Printed remaining input d = text.Printed Job says remaining input d
