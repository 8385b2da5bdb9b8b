-- What the call says of an accepted job text: as the planner, without the nodes, and with the floor only where a walk was cut.
use Rattle.std.specs.Prelude.{ℕ, List, ◌++◌}
use Rattle.lines.specs.Text.{line_of}
use Rattle.model.specs.Limits.{answer_room}
use Rattle.model.specs.Promise.{PlannerAnswer, no_plan_lem2, cut_none, cut, optimum, result_of}
use Rattle.job_grammar.specs.Grammar.{Given}
use Rattle.plan_printing.specs.Printed.{printed_lines}
use Rattle.answers.specs.Said.{Said, plainly, Printable}

-- what is written where a walk was cut: a floor
unfoldable pub floor_lines : ℕ → List ℕ
floor_lines floor = line_of "result=" 7 ++ line_of "floor=" floor

-- the lines of an answer to a job text
abbrev pub optimum_lines : Given → PlannerAnswer → List ℕ
optimum_lines given no_plan_lem2 = line_of "result=" 6
optimum_lines given (cut_none nodes floor) = floor_lines floor
optimum_lines given (cut nodes floor cost plan) = floor_lines floor ++ printed_lines given cost plan
optimum_lines given (optimum nodes floor cost plan) = line_of "result=" 0 ++ printed_lines given cost plan

-- what is handed over and written for an answer to a job text: its number, and its lines
abbrev pub optimum_reply : Given → PlannerAnswer → Said
optimum_reply given a = plainly (result_of a) (optimum_lines given a)

-- the numbers that are written can be printed
abbrev pub PrintableOptimum : PlannerAnswer → Type 0
PrintableOptimum no_plan_lem2 = Unit {0}
PrintableOptimum (cut_none nodes floor) = Printable floor
PrintableOptimum (cut nodes floor cost plan) = Printable floor × Printable cost
PrintableOptimum (optimum nodes floor cost plan) = Printable cost

-- the room that the call's output must have, as the planner's
abbrev pub optimum_room : ℕ
optimum_room = answer_room
