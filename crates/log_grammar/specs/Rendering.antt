-- The text of a log, and of two logs as one.
use Rattle.std.specs.Prelude.{List, ◌++◌, map, ℕ, ◌+◌, take}
use Rattle.lines.specs.Text.{line_of}
use Rattle.model.specs.Model.{Job, Plan}
use Rattle.plan_grammar.specs.Grammar.{Visit}
use Rattle.plan_grammar.specs.Rendering.{visits_of, plan_text_lem, plan_lines_of}
use Rattle.carry.specs.Carry.{Log, passed, carried}
use Rattle.log_grammar.specs.Grammar.{LogText}

-- E12.1. the line `step`, and then the plan lines
unfoldable pub log_text_lem : Job → Log → List ℕ
log_text_lem job log = line_of "step=" log.step ++ plan_lines_of job log.cost log.plan

-- the plan at the first n openings
abbrev pub plan_front : ℕ → Plan → Plan
plan_front n plan = record { stops = take n plan.stops; changes = map (take n) plan.changes }

-- what that text says
abbrev pub log_says : Job → Log → LogText
log_says job log = record { step = log.step; stated = record { cost = log.cost; plan = plan_front (passed job log.step) log.plan } }

-- E13.2. "the second's steps shifted by the first's"
abbrev pub shifted : ℕ → Visit → Visit
shifted step v = record { step = step + v.step; parts = v.parts }

-- E13.2. "The joined log has the second's steps shifted by the first's, and the costs added.": its lines, from those of a log of the job and of one of the new job
unfoldable pub joined_text : Job → Log → Log → List ℕ
joined_text job first second =
    line_of "step=" (first.step + second.step)
    ++ plan_text_lem (first.cost + second.cost) (visits_of job first.plan ++ map (shifted first.step) (visits_of (carried job first) second.plan))
