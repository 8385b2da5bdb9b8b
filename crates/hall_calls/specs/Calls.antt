-- No call at a step: each line open there takes a no, one after the other.
use Rattle.std.specs.Prelude.{ℕ, ◌+◌, ◌<◌, ◌≤◌, ◌≡◌, Bool, true, false, cond, List, Option, Some, None, length}
use Rattle.branch.specs.declared.Bound.TheVariants.{Missing}
use Rattle.branch.specs.Search.{snoc}
use Rattle.hall_model.specs.Hall.{Hall}
use Rattle.hall_model.specs.LowerBound.{hall_bound}
use Rattle.hall_nodes.specs.Lines.{lines_sum, Goes, no_blocks_lem}
use Rattle.hall_steps.specs.Steps.{open_in}
use Rattle.hall_state.specs.declared.Spot.{Spot}
use Rattle.hall_state.specs.declared.Ground.{Ground}
use Rattle.hall_state.specs.Courses.{Arrays, rows_at, Course, course_in, line_slot, slots_at, Kept}

-- a line's course after a no
abbrev pub none_of_lem : Course → Course
none_of_lem c = record { sheet = c.sheet; blocks = no_blocks_lem c.blocks; paid = c.paid; at = c.at + 1; stop = None }

-- after a step without a call: a no if the line is open there
abbrev pub pass_of : Bool → Course → Course
pass_of o c = cond o (none_of_lem c) c

-- the first d lines have passed the k-th step without a stop; `total` is the hall's estimate so far
pub record Passing (g : Ground) (a a' : Arrays) (k : ℕ) (calls : ℕ) (cs : List Course) (d total : ℕ) : Type 0 where
  pub kept : Kept g a a' cs
  pub aside : (e : ℕ) → (rows_at a' e).v ≡ (rows_at a e).v
  pub courses : List Course
  pub size : length courses ≡ length cs
  pub done : (e : ℕ) → e < d → course_in courses e ≡ pass_of (open_in g.ats.before k e) (course_in cs e)
  pub rest : (e : ℕ) → d ≤ e → course_in courses e ≡ course_in cs e
  pub rows : (e : ℕ) → d ≤ e → rows_at a' e ≡ rows_at a e
  pub goes : (e : ℕ) → e < d → open_in g.ats.before k e ≡ true → Goes false (line_slot g a' e (course_in cs e)) (line_slot g a' e (none_of_lem (course_in cs e)))
  pub total_is : total ≡ calls + lines_sum (slots_at g a' 0 courses)

-- one line more, or some line's own node below has no bound
pub record PassedOn (hall : Hall) (g : Ground) (a a' : Arrays) (p : Spot) (name : List Bool) (calls : ℕ) (cs : List Course) (d : ℕ) (r : Option ℕ) : Type 0 where
  pub none : r ≡ None → Kept g a a' cs × ((e : ℕ) → (rows_at a' e).v ≡ (rows_at a e).v) × (hall_bound hall (snoc name false) ≡ Missing)
  pub some : (z : ℕ) → r ≡ Some z → Passing g a a' p.step calls cs d z
