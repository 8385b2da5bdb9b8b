-- What a hall plan decides, in the walk's order: ties compare calls, stops and removals in it, as E7.8 has it for one line.
use Rattle.std.specs.Prelude.{Bool, true, false, cond, List, [], ◌∷◌, map, ℕ}
use Rattle.model.specs.Model.{Job, Plan}
use Rattle.model.specs.Windows.{steps_of, at_step}
use Rattle.model.specs.Decisions.{plan_blocks, concat}
use Rattle.hall_model.specs.Hall.{Hall, some_stops}
use Rattle.hall_model.specs.Agenda.{crew_steps}

-- what the line decides at the step: its block there, and nothing where it is not open
abbrev pub block_at : Job → Plan → ℕ → List Bool
block_at job plan step = at_step [] (steps_of job.openings) (plan_blocks job plan) step

-- what each line decides at the step
abbrev pub blocks_at : List Job → List Plan → ℕ → List (List Bool)
blocks_at [] plans step = []
blocks_at (job ∷ jobs) [] step = []
blocks_at (job ∷ jobs) (plan ∷ plans) step = block_at job plan step ∷ blocks_at jobs plans step

-- E14.4. the decisions of one step: "no call"; or a "call", and then what "each line open there" decides
abbrev pub turn : Bool → List (List Bool) → List Bool
turn called bs = cond called (true ∷ concat bs) (false ∷ [])

-- the decisions of the hall plan at the step: the crew is called where some line stops
abbrev pub turn_at : List Job → List Plan → ℕ → List Bool
turn_at jobs plans step = turn (some_stops jobs plans step) (blocks_at jobs plans step)

-- E14.4. the hall plan's decisions, "at each step with an opening"
unfoldable pub hall_decisions : Hall → List Plan → List Bool
hall_decisions hall plans = concat (map (turn_at hall.jobs plans) (crew_steps hall))
