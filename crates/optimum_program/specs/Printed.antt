-- What the optimum's program says of a text, at the walk number of the planner's program. There is always room for it, so it is never 8.
use Rattle.std.specs.Prelude.{ℕ, List}
use Rattle.model.specs.Limits.{most_walk}
use Rattle.answers.specs.Said.{Said}
use Rattle.optimizing.specs.Optimum.{optimum_room}
use Rattle.optimizing.specs.Promise.{OptimumPromise}
use Rattle.std.specs.declared.option.Option.{Option}
use Rattle.text_program.specs.declared.Done.{Done}
use Rattle.text_program.specs.Printed as text
use Rattle.whole_input.specs.declared.Text.TheVariants.{Job}

-- s keeps what the optimum promises of the text at the largest walk number
abbrev pub says : List ℕ → Said → Type 0
says text s = OptimumPromise text most_walk optimum_room s

-- what was done is that such an answer to the bytes that were read was printed
abbrev pub Printed : {I : Type 0} → (I → Option (List ℕ)) → Option I → Done → Type 0
Printed remaining input d = text.Printed Job says remaining input d
