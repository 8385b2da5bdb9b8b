-- What the hall's walk is given at a spot, which it is to walk on from or to pass by, and what it does.
use Rattle.std.specs.Prelude.{ℕ, ◌+◌, ◌≡◌, Bool, List, Option, Some, None, length}
use Rattle.branch.specs.declared.Bound.{Bound}
use Rattle.branch.specs.declared.Bound.TheVariants.{Missing, Sum}
use Rattle.search_state.specs.declared.Search.{Search}
use Rattle.search_state.specs.State.{reached_s, open_s}
use Rattle.search_state.proofs.Trees.{DueAt}
use Rattle.hall_model.specs.Hall.{Hall}
use Rattle.hall_model.specs.Agenda.{Agenda}
use Rattle.hall_model.specs.LowerBound.{hall_bound}
use Rattle.hall_model.specs.Steps.{tree_from}
use Rattle.hall_nodes.specs.Walk.{Sees}
use Rattle.hall_state.specs.declared.Ground.{Ground}
use Rattle.hall_lines.specs.declared.Stop.{Stop}
use Rattle.hall_state.specs.declared.Question.TheVariants.{CrewCall, LineStop, PartRemoval}
use Rattle.hall_state.specs.declared.Spot.{Spot}
use Rattle.hall_state.specs.Courses.{Arrays, Course, slots_at}
use Rattle.hall_state.specs.Spots.{left_of, Stood}
use Rattle.hall_state.specs.Moves.{measure_of, Crewed, Passed}
use Rattle.hall_walk.specs.declared.Tally.{Tally}

-- the search's state: the incumbent's decisions stand beside it, line by line
abbrev pub search_of : Tally → Search
search_of t = record { count = t.count; cost = t.cost; mask = 0 }

-- where the crew's call is asked at the step
abbrev pub call_at : ℕ → ℕ → Spot
call_at step total = record { asks = CrewCall; step = step; line = 0; total = total }

-- where a stop is asked of the lines from this place on
abbrev pub line_at : ℕ → ℕ → ℕ → Spot
line_at step line total = record { asks = LineStop; step = step; line = line; total = total }

-- where a removal at this stop of the line is asked
abbrev pub removal_at : ℕ → ℕ → Stop → ℕ → Spot
removal_at step line stop total = record { asks = PartRemoval stop; step = step; line = line; total = total }

-- the node of this name is reached: its test, and where it is walked on its lines and the incumbent
pub record Reaches (hall : Hall) (g : Ground) (a : Arrays) (q : Option Spot) (name best : List Bool) (calls : ℕ) (cs : List Course) (masks : List ℕ) (limit : ℕ) (s : Search) : Type 0 where
  pub crewed : Crewed hall g.ats
  pub left : List Agenda
  pub e : Bound
  pub due : ℕ
  pub due_at : DueAt (tree_from (hall_bound hall) left name) e due
  pub closed : q ≡ None → open_s limit due e s ≡ Missing
  pub opened : (r : Spot) → q ≡ Some r → (y : ℕ) × (open_s limit due e s ≡ Sum y) × Stood hall g a r name calls cs × (left_of hall r ≡ left) × Sees hall best (slots_at g a 0 cs) masks s

-- where a node is reached: of which hall, the node of which name, with which incumbent, calls and courses, none of which the code knows
pub record ReachedAt (g : Ground) (a : Arrays) (q : Option Spot) (masks : List ℕ) (limit : ℕ) (s : Search) : Type 0 where
  pub hall : Hall
  pub name : List Bool
  pub kept : List Bool
  pub calls : ℕ
  pub cs : List Course
  pub reaches : Reaches hall g a q name kept calls cs masks limit s

-- what the walk does at a node: it passes it by, and nothing else is written, or walks on from it
pub record HallWalked (hall : Hall) (left : List Agenda) (g : Ground) (a a' : Arrays) (q : Option Spot) (name best : List Bool) (cs : List Course) (masks masks' : List ℕ) (limit : ℕ) (s r : Search) : Type 0 where
  pub count : length masks' ≡ length masks
  pub passed : q ≡ None → (r ≡ reached_s limit s) × (a' ≡ a) × (masks' ≡ masks)
  pub walked : (t : Spot) → q ≡ Some t → Passed hall (tree_from (hall_bound hall) left name) name best limit g a a' cs masks' s r

-- what the walk does, wherever the node is reached
abbrev pub WalksOn : Ground → Arrays → Arrays → Option Spot → List ℕ → List ℕ → ℕ → Search → Search → Type 0
WalksOn g a a' q masks masks' limit s r = (k : ReachedAt g a q masks limit s) → HallWalked k.hall k.reaches.left g a a' q k.name k.kept k.cs masks masks' limit s r

-- how much is left to walk
abbrev pub walk_measure : Option Spot → ℕ
walk_measure None = 0
walk_measure (Some q) = measure_of q + 1
