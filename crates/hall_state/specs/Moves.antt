-- What the walk's moves find: the node arrived at, and a node below, tested.
use Rattle.std.specs.Prelude.{ℕ, ◌+◌, ◌-◌, ◌*◌, ◌<◌, ◌≤◌, ◌≡◌, Bool, List, Option, Some, None, length}
use Rattle.branch.specs.declared.Bound.{Bound}
use Rattle.branch.specs.declared.Bound.TheVariants.{Missing, Sum}
use Rattle.branch.specs.Search.{Tree, snoc, limited}
use Rattle.search_state.specs.declared.Search.{Search}
use Rattle.search_state.specs.State.{view_of, open_s}
use Rattle.search_state.proofs.Trees.{DueAt}
use Rattle.hall_model.specs.Hall.{Hall}
use Rattle.hall_model.specs.Limits.{Fits}
use Rattle.hall_model.specs.LowerBound.{hall_bound}
use Rattle.hall_model.specs.Steps.{tree_from}
use Rattle.hall_nodes.specs.Walk.{Sees}
use Rattle.hall_steps.specs.declared.CrewSteps.{CrewSteps}
use Rattle.hall_steps.specs.Table.{step_count, CrewTable}
use Rattle.hall_state.specs.declared.Ground.{Ground}
use Rattle.hall_state.specs.declared.Question.{Question}
use Rattle.hall_state.specs.declared.Question.TheVariants.{CrewCall, LineStop, PartRemoval}
use Rattle.hall_state.specs.declared.Spot.{Spot}
use Rattle.hall_state.specs.Courses.{Arrays, Course, course_in, rows_at, slots_at, Kept, BestSame}
use Rattle.hall_state.specs.Spots.{left_of, left_below, Stood, Asked}

-- how much is left to decide at a step: lines and removals
abbrev pub measure_in : ℕ → Question → ℕ
measure_in line CrewCall = 120
measure_in line LineStop = (5 - line) * 20 + 18
measure_in line (PartRemoval stop) = (5 - line) * 20 + (16 - stop.next)

-- how much is left to decide: steps, lines and removals
abbrev pub measure_of : Spot → ℕ
measure_of p = (64 - p.step) * 128 + measure_in p.line p.asks

-- the incumbent's removals stay, and each line's sheet
pub record SameCourses (a a' : Arrays) (cs cs' : List Course) : Type 0 where
  pub size : length cs' ≡ length cs
  pub sheet : (e : ℕ) → e < length cs → (course_in cs' e).sheet ≡ (course_in cs e).sheet
  pub best : (e : ℕ) → e < length cs → BestSame (rows_at a e).v (rows_at a' e).v (course_in cs e).sheet

-- the walk's next question, with a stop settled before it, and each line's numbers
pub record Arrived (hall : Hall) (g : Ground) (a a' : Arrays) (q p : Spot) (name : List Bool) (calls : ℕ) (cs : List Course) : Type 0 where
  pub courses : List Course
  pub stood : Stood hall g a' p name calls courses
  pub asked : (p.asks ≡ CrewCall → p.step ≡ step_count hall → ⊥) → Asked hall g.ats p
  pub tree : tree_from (hall_bound hall) (left_of hall q) name ≡ tree_from (hall_bound hall) (left_of hall p) name
  pub same : SameCourses a a' cs courses
  pub kept : (a'' : Arrays) → Kept g a' a'' courses → Kept g a a'' cs
  pub measure : measure_of p ≤ measure_of q

-- the hall of the table
pub record Crewed (hall : Hall) (ats : CrewSteps) : Type 0 where
  pub table : CrewTable hall ats
  pub fits : Fits hall

-- a node below that is walked on: what is given of it, and what is kept of it is kept of the node above
pub record Opens (hall : Hall) (x : Bool) (g : Ground) (a a' : Arrays) (p q : Spot) (name : List Bool) (cs : List Course) : Type 0 where
  pub calls : ℕ
  pub courses : List Course
  pub stood : Stood hall g a' q (snoc name x) calls courses
  pub left : left_of hall q ≡ left_below hall x p
  pub same : SameCourses a a' cs courses
  pub kept : (a'' : Arrays) → Kept g a' a'' courses → Kept g a' a'' cs
  pub measure : measure_of q < measure_of p

-- the node below, where the decision x is taken, as the code tests it: it is walked on exactly where there is a spot
pub record Below (hall : Hall) (x : Bool) (g : Ground) (a a' : Arrays) (p : Spot) (q : Option Spot) (name : List Bool) (cs : List Course) (limit : ℕ) (s : Search) : Type 0 where
  pub e : Bound
  pub due : ℕ
  pub due_at : DueAt (tree_from (hall_bound hall) (left_below hall x p) (snoc name x)) e due
  pub kept : Kept g a a' cs
  pub same : SameCourses a a' cs cs
  pub closed : q ≡ None → open_s limit due e s ≡ Missing
  pub opened : (r : Spot) → q ≡ Some r → (y : ℕ) × (open_s limit due e s ≡ Sum y) × Opens hall x g a a' p r name cs

-- a node with the tree T, passed by or walked on from: the search's walk on, the incumbent, and what is kept
pub record Passed (hall : Hall) (T : Tree) (name best : List Bool) (limit : ℕ) (g : Ground) (a a' : Arrays) (cs : List Course) (masks : List ℕ) (s r : Search) : Type 0 where
  pub found : List Bool
  pub search : view_of limit (λ _. found) r ≡ limited limit T name (view_of limit (λ _. best) s)
  pub sees : Sees hall found (slots_at g a' 0 cs) masks r
  pub kept : Kept g a a' cs
