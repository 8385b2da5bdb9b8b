-- A spot of the hall's walk: what is left to ask there, and what the walk is given.
use Rattle.std.specs.Prelude.{ℕ, zero, suc, ◌+◌, ◌-◌, ◌<◌, ◌≤◌, ◌≡◌, Bool, true, cond, List, [], ◌∷◌, Option, Some, None, ltb, eqb, length, drop}
use Rattle.model.specs.Model.{Job}
use Rattle.model.specs.LowerBound.{inner}
use Rattle.hall_model.specs.Hall.{Hall}
use Rattle.hall_model.specs.Agenda.{Agenda, steps_asked, agenda_of, crew_steps}
use Rattle.hall_model.specs.Steps.{Stands}
use Rattle.hall_nodes.specs.Lines.{lines_sum, HallAt}
use Rattle.hall_nodes.specs.Walk.{hall_left}
use Rattle.hall_lines.specs.declared.Stop.{Stop}
use Rattle.hall_steps.specs.declared.CrewSteps.{CrewSteps}
use Rattle.hall_steps.specs.Steps.{level_in, open_in}
use Rattle.hall_steps.specs.Table.{step_count, step_at}
use Rattle.hall_state.specs.declared.Ground.{Ground}
use Rattle.hall_state.specs.declared.Question.{Question}
use Rattle.hall_state.specs.declared.Question.TheVariants.{CrewCall, LineStop, PartRemoval}
use Rattle.hall_state.specs.declared.Spot.{Spot}
use Rattle.hall_state.specs.Courses.{Arrays, Course, course_in, slots_at}

-- ---- spots below

-- the lines from this place on
abbrev pub line_spot : Spot → ℕ → ℕ → Spot
line_spot p line total = record { asks = LineStop; step = p.step; line = line; total = total }

-- a stop of the line at hand
abbrev pub stop_spot : Spot → Stop → ℕ → Spot
stop_spot p stop total = record { asks = PartRemoval stop; step = p.step; line = p.line; total = total }

-- the next step
abbrev pub call_spot : Spot → ℕ → Spot
call_spot p total = record { asks = CrewCall; step = p.step + 1; line = 0; total = total }

-- ---- what is left to ask

-- the holding parts of the line at place d
abbrev pub inner_at : List Job → ℕ → ℕ
inner_at [] d = 0
inner_at (job ∷ jobs) zero = inner job
inner_at (job ∷ jobs) (suc d) = inner_at jobs d

-- where the call of a step is asked: the steps from there on
abbrev pub call_left : Hall → ℕ → List Agenda
call_left hall step = steps_asked hall.jobs (drop step (crew_steps hall)) ∷ []

-- where k removals of the line before place j are open: those, the lines from place j on, and the steps behind
abbrev pub line_left : Hall → ℕ → ℕ → ℕ → List Agenda
line_left hall step k j = hall_left hall.jobs k j (step_at hall step) (drop (step + 1) (crew_steps hall))

-- what is left to ask at a question of this step and line
abbrev pub left_at : Hall → ℕ → ℕ → Question → List Agenda
left_at hall step line CrewCall = call_left hall step
left_at hall step line LineStop = line_left hall step 0 line
left_at hall step line (PartRemoval stop) = line_left hall step (inner_at hall.jobs line - stop.next) (line + 1)

-- what is left to ask below a question, after a no and after a yes
abbrev pub below_at : Hall → Bool → ℕ → ℕ → Question → List Agenda
below_at hall x step line CrewCall = cond x (line_left hall step 0 0) (call_left hall (step + 1))
below_at hall x step line LineStop = cond x (line_left hall step (inner_at hall.jobs line - 0) (line + 1)) (line_left hall step 0 (line + 1))
below_at hall x step line (PartRemoval stop) = line_left hall step (inner_at hall.jobs line - (stop.next + 1)) (line + 1)

-- what is left to ask at a spot
abbrev pub left_of : Hall → Spot → List Agenda
left_of hall p = left_at hall p.step p.line p.asks

-- what is left to ask below a spot, after this answer
abbrev pub left_below : Hall → Bool → Spot → List Agenda
left_below hall x p = below_at hall x p.step p.line p.asks

-- ---- what is given

-- the openings that the line at place d has decided at a spot: at the lines before the one at hand those of the next step
abbrev pub level_of : CrewSteps → Spot → ℕ → ℕ
level_of ats p d = cond (ltb d p.line) (level_in ats.before (p.step + 1) d) (level_in ats.before p.step d)

-- the stop that a question is about, if it is asked of this line
abbrev pub stop_by : Question → Bool → Option Stop
stop_by CrewCall b = None
stop_by LineStop b = None
stop_by (PartRemoval stop) b = cond b (Some stop) None

-- the stop of the line at place d
abbrev pub stop_at : Spot → ℕ → Option Stop
stop_at p d = stop_by p.asks (eqb d p.line)

-- the course of the line at place d is what the spot says of it: its level, and the stop of the line at hand
pub record OnCourse (ats : CrewSteps) (p : Spot) (d : ℕ) (c : Course) : Type 0 where
  pub level : c.at ≡ level_of ats p d
  pub stop : c.stop ≡ stop_at p d

-- the spot is one of the hall's
pub record Formed (hall : Hall) (ats : CrewSteps) (p : Spot) : Type 0 where
  pub call : p.asks ≡ CrewCall → (p.step ≤ step_count hall) × (p.line ≡ 0)
  pub line : p.asks ≡ LineStop → (p.step < step_count hall) × (p.line ≤ length hall.jobs)
  pub removal : (stop : Stop) → p.asks ≡ PartRemoval stop → (p.step < step_count hall) × (p.line < length hall.jobs) × (open_in ats.before p.step p.line ≡ true)

-- the steps asked: at a call those before it
abbrev pub asked_in : Question → ℕ
asked_in CrewCall = 0
asked_in LineStop = 1
asked_in (PartRemoval stop) = 1

-- the steps asked at a spot
abbrev pub asked_of : Spot → ℕ
asked_of p = p.step + asked_in p.asks

-- the hall's node of this name, at this spot: its lines' courses, what the calls cost, and the whole estimate
pub record Stood (hall : Hall) (g : Ground) (a : Arrays) (p : Spot) (name : List Bool) (calls : ℕ) (cs : List Course) : Type 0 where
  pub formed : Formed hall g.ats p
  pub at : HallAt hall name (asked_of p) calls (slots_at g a 0 cs)
  pub stands : Stands (agenda_of hall) name (left_of hall p)
  pub count : length cs ≡ length hall.jobs
  pub courses : (e : ℕ) → e < length cs → OnCourse g.ats p e (course_in cs e)
  pub total : p.total ≡ calls + lines_sum (slots_at g a 0 cs)

-- what is asked there: a call, a line that is open, or a removal that is
pub record Asked (hall : Hall) (ats : CrewSteps) (p : Spot) : Type 0 where
  pub call : p.asks ≡ CrewCall → p.step < step_count hall
  pub line : p.asks ≡ LineStop → (p.line < length hall.jobs) × (open_in ats.before p.step p.line ≡ true)
  pub removal : (stop : Stop) → p.asks ≡ PartRemoval stop → stop.next < inner_at hall.jobs p.line
