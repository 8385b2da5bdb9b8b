-- What the hall's walk asks: E14.4. "The walk goes by step; at each step with an opening it decides call or no call, no first, then after a call each line open there in turn as before."
-- What a node's decisions tell each line stands here too.
use Rattle.std.specs.Prelude.{Bool, true, false, cond, ◌||◌, List, [], ◌∷◌, ◌++◌, ℕ, zero, suc, eqb}
use Rattle.branch.specs.Questions.{Questions, done, asks}
use Rattle.model.specs.Model.{Job}
use Rattle.model.specs.LowerBound.{inner}
use Rattle.hall_model.specs.Hall.{Hall, horizon_of, open_at}

-- ---- questions with topics

-- what a question is about: the crew, with the step; or a line, by its place from 0 on
pub data Topic : Type 0 where
  crew : ℕ → Topic
  line : ℕ → Topic

-- as `Questions`, each with its topic: `raise topic inner next`
pub data Agenda : Type 0 where
  over : Agenda
  raise : Topic → Agenda → Agenda → Agenda

-- the questions without their topics
abbrev pub plain : Agenda → Questions
plain over = done
plain (raise t inner next) = asks (plain inner) (plain next)

-- what a listener hears, to whom an answer on a topic tells some decisions: at the node p of the agenda, and then what `rest` makes of what is left of p
unfoldable pub hear_then : (Topic → Bool → List Bool) → Agenda → (List Bool → List Bool) → List Bool → List Bool
hear_then tells over rest p = rest p
hear_then tells (raise t inner next) rest [] = []
hear_then tells (raise t inner next) rest (false ∷ p) = tells t false ++ hear_then tells next rest p
hear_then tells (raise t inner next) rest (true ∷ p) = tells t true ++ hear_then tells inner (hear_then tells next rest) p

-- what it hears at the node p of the agenda
abbrev pub hear : (Topic → Bool → List Bool) → Agenda → List Bool → List Bool
hear tells agenda p = hear_then tells agenda (λ r. []) p

-- ---- the hall's agenda

-- E14.4. "as before", E7.5: the removals that line j decides after a stop
unfoldable pub removals : ℕ → ℕ → Agenda
removals j zero = over
removals j (suc h) = raise (line j) over (removals j h)

-- E14.4. "after a call each line open there in turn": the lines from place j on
unfoldable pub lines_asked : ℕ → ℕ → List Job → Agenda
lines_asked step j [] = over
lines_asked step j (job ∷ jobs) = cond (open_at job step) (raise (line j) (removals j (inner job)) (lines_asked step (suc j) jobs)) (lines_asked step (suc j) jobs)

-- E14.4. at each of these steps, "call or no call"
unfoldable pub steps_asked : List Job → List ℕ → Agenda
steps_asked jobs [] = over
steps_asked jobs (step ∷ steps) = raise (crew step) (lines_asked step 0 jobs) (steps_asked jobs steps)

-- some line is open at the step
abbrev pub some_open : List Job → ℕ → Bool
some_open [] step = false
some_open (job ∷ jobs) step = open_at job step || some_open jobs step

-- of `count` steps, `from` the first, those at which some line is open
unfoldable pub open_steps : List Job → ℕ → ℕ → List ℕ
open_steps jobs from zero = []
open_steps jobs from (suc count) = cond (some_open jobs from) (from ∷ open_steps jobs (suc from) count) (open_steps jobs (suc from) count)

-- E14.4. "each step with an opening"
abbrev pub crew_steps : Hall → List ℕ
crew_steps hall = open_steps hall.jobs 1 (horizon_of hall.jobs)

-- what the hall's walk asks
abbrev pub agenda_of : Hall → Agenda
agenda_of hall = steps_asked hall.jobs (crew_steps hall)

-- ---- what a node tells

-- a line by its place
pub record Line : Type 0 where
  pub place : ℕ
  pub job : Job

-- the lines from place j on
unfoldable pub lines_from : ℕ → List Job → List Line
lines_from j [] = []
lines_from j (job ∷ jobs) = record { place = j; job = job } ∷ lines_from (suc j) jobs

-- all lines of the hall
abbrev pub lines_of : Hall → List Line
lines_of hall = lines_from 0 hall.jobs

-- a line is told its own decisions; and no call means no stop, if the line is open there
abbrev pub to_line : Line → Topic → Bool → List Bool
to_line ln (crew step) false = cond (open_at ln.job step) (false ∷ []) []
to_line ln (crew step) true = []
to_line ln (line j) x = cond (eqb ln.place j) (x ∷ []) []

-- the crew is told its calls
abbrev pub to_crew : Topic → Bool → List Bool
to_crew (crew step) false = []
to_crew (crew step) true = true ∷ []
to_crew (line j) x = []

-- the node of the line's own tree at which the node p of the hall leaves the line
abbrev pub name_for : Hall → Line → List Bool → List Bool
name_for hall ln p = hear (to_line ln) (agenda_of hall) p

-- E14.5. "the calls decided", a yes for each
abbrev pub calls_at : Hall → List Bool → List Bool
calls_at hall p = hear to_crew (agenda_of hall) p
