-- What the hall planner says of a hall text, text number 1, and the walk number of the call. R20. "Order: 8; then the [..] text [..]; then 6 before 7".
use Rattle.std.specs.Prelude.{ℕ, List}
use Rattle.model.specs.Limits.{answer_room}
use Rattle.answers.specs.Said.{Said}
use Rattle.answers.specs.Texts.{on_text}
use Rattle.planning.specs.Plan.{walk_number_lem}
use Rattle.hall_model.specs.Hall.{Hall}
use Rattle.hall_model.specs.Promise.{hall_answer}
use Rattle.hall_grammar.specs.Reading.{read_hall_lem}
use Rattle.hall_printing.specs.Lines.{hall_reply}

-- what is said of a hall at the walk number of the call
abbrev pub on_hall : ℕ → Hall → Said
on_hall walk hall = hall_reply hall (hall_answer hall (walk_number_lem walk))

-- the hall planner's answer where there is room for it
unfoldable pub hall_said : List ℕ → ℕ → Said
hall_said text walk = on_text 1 text (on_hall walk) (read_hall_lem text)

-- X8. "The lent output has at least 16,384."
abbrev pub hall_room : ℕ
hall_room = answer_room
