-- The code's state and node as the search's, and what the walk is given at a node. The walk is one from sources, with lifts: the job's own begins at level 0, from the first lives.
use Rattle.std.specs.Prelude.{ℕ, ◌+◌, ◌-◌, ◌*◌, ◌<◌, ◌≤◌, ◌≡◌, Bool, true, false, cond, List, [], ◌∷◌, ◌++◌, ltb, length, get_or, take}
use Rattle.branch.specs.declared.Bound.{Bound}
use Rattle.branch.specs.Search.{Tree, plan, Limited, limited, snoc}
use Rattle.branch.specs.Questions.{left_at}
use Rattle.known_cost.specs.Known.{walk_under}
use Rattle.model.specs.Limits.{most_openings, most_parts}
use Rattle.model.specs.Model.{Job}
use Rattle.model.specs.Decisions.{Held}
use Rattle.model.specs.LowerBound.{inner}
use Rattle.shares.specs.Shares.{Shares, charged_for}
use Rattle.shares.specs.Lift.{Level}
use Rattle.shares.specs.Sources.{behind}
use Rattle.shares.specs.Dolls.{sourced_bound, sourced_tree}
use Rattle.lane_rows.specs.Layout.{lane_count_lem, top, row_place, suffix_base}
use Rattle.lane_rows.specs.Rows.{lane, sum_lanes, Memo, Recalled}
use Rattle.share_rows.specs.Tables.{Lanes, SharedTables, ShareTable}
use Rattle.share_rows.specs.Stacked.{Course, Idle, Stacked, TopRow}
use Rattle.share_walk.specs.declared.Node.{Node}
use Rattle.share_walk.specs.declared.State.{State}

-- the most decisions that a name has: 64 openings, each with a stop and 16 removals
abbrev pub name_size : ℕ
name_size = most_openings * (most_parts + 1)

-- ---- the state

-- the state as the search has it: a cost is known from the start, and the incumbent's name is the first part of `best`
abbrev pub view : State → List Bool → Limited
view s best = record { count = s.count; over = s.over; incumbent = plan s.cost (take s.size best) }

-- one node more
abbrev pub counted_s : State → State
counted_s s = record { count = s.count + 1; over = s.over; cost = s.cost; size = s.size }

-- a node is reached beyond the limit
abbrev pub stopped_s : State → State
stopped_s s = record { count = s.count; over = true; cost = s.cost; size = s.size }

-- a full node is kept: its cost, and how long its name is
abbrev pub kept_s : State → ℕ → ℕ → State
kept_s s c n = record { count = s.count; over = s.over; cost = c; size = n }

-- ---- the nodes below

-- below an opening: no stop; a stop, whose removals are not decided yet
abbrev pub open_n : Node → ℕ → Bool → Node
open_n p fee false = record { at = p.at + 1; rows = p.rows; next = p.next; size = p.size + 1; spent = p.spent }
open_n p fee true = record { at = p.at + 1; rows = p.rows + 1; next = 0; size = p.size + 1; spent = p.spent + fee }

-- below a stop: one removal more is decided, which costs this
abbrev pub asked_n : Node → ℕ → Node
asked_n p paid = record { at = p.at; rows = p.rows; next = p.next + 1; size = p.size + 1; spent = p.spent + paid }

-- the next holding part is not removed, or it is
abbrev pub stop_n : Node → ℕ → Bool → Node
stop_n p removal b = asked_n p (cond b removal 0)

-- the blocks of the node named s: nothing is decided before the level where the walk begins
abbrev pub blocks_at : Job → Course → List Bool → List (List Bool)
blocks_at job course s = behind job course.level s

-- the estimate of that node, with the lift of its level
abbrev pub course_bound : Job → Shares → Course → List Bool → Bound
course_bound job shares course s = sourced_bound job shares course.lift course.level course.sources s

-- what is left to ask there
abbrev pub tree_at : Job → Shares → Course → Node → List Bool → Tree
tree_at job shares course p s = left_at (course_bound job shares course) (inner job) (inner job - p.next) (length job.openings - p.at) s

-- and at a node below it: at a stop one removal fewer, at an opening one opening fewer, and after a yes its removals
abbrev pub below_tree : Job → Shares → Course → Node → List Bool → Bool → Tree
below_tree job shares course p s b =
    cond (ltb p.next (inner job))
    (left_at (course_bound job shares course) (inner job) (inner job - (p.next + 1)) (length job.openings - p.at) (snoc s b))
    (left_at (course_bound job shares course) (inner job) (cond b (inner job) 0) (length job.openings - (p.at + 1)) (snoc s b))

-- ---- what the walk is given

-- the node's numbers
pub record Numbers (job : Job) (shares : Shares) (course : Course) (s : List Bool) (t x : List ℕ) (p : Node) : Type 0 where
  pub tables : SharedTables job shares course.held t
  pub shared : ShareTable job shares course.held x
  pub lanes_are : Lanes job shares course.held
  pub idle : Idle job shares course
  pub begun : course.level ≤ p.at
  pub inside : p.at ≤ length job.openings
  pub next : p.next ≤ inner job
  pub size : length (blocks_at job course s) ≡ p.at
  pub spent : p.spent ≡ charged_for job (blocks_at job course s)
  pub poor : p.spent ≤ top * (p.at * (lane_count_lem + 1) + p.next)
  pub named : length s ≡ p.size
  pub short : p.size + (inner job - p.next) ≤ p.at * (lane_count_lem + 1)

-- at a stop: the node before it, at a level, and the removals so far
pub record StopAt (job : Job) (course : Course) (s : List Bool) (p : Node) : Type 0 where
  pub before : List Bool
  pub rs : List Bool
  pub same : s ≡ before ++ (true ∷ rs)
  pub later : course.level < p.at
  pub some : 1 < p.rows
  pub level : Level job (p.at - 1 - course.level) before
  pub asked : length rs ≡ p.next

-- at a stop: the row of the stop is in f, above the others
pub record Stopped (job : Job) (shares : Shares) (course : Course) (s : List Bool) (t w : List ℕ) (f : ℕ → ℕ) (p : Node) : Type 0 where
  pub at_stop : StopAt job course s p
  pub row : TopRow job shares course (blocks_at job course at_stop.before) at_stop.rs w (p.rows - 1) f
  pub memo : Memo t w (p.rows - 1)

-- at an opening: all rows are on the stack
pub record Opened (job : Job) (shares : Shares) (course : Course) (s : List Bool) (t w : List ℕ) (p : Node) : Type 0 where
  pub level : Level job (p.at - course.level) s
  pub rows : Stacked job shares course (blocks_at job course s) w p.rows
  pub memo : Memo t w p.rows

-- what the walk is given of the node named s
pub record At (job : Job) (shares : Shares) (course : Course) (s : List Bool) (t x lifts w : List ℕ) (name : List Bool) (p : Node) : Type 0 where
  pub numbers : Numbers job shares course s t x p
  pub lift : (k : ℕ) → k ≤ length job.openings → get_or lifts k 0 ≡ course.lift k
  pub name_is : take p.size name ≡ s
  pub room : length name ≡ name_size
  pub rows : Stacked job shares course (blocks_at job course s) w p.rows
  pub memo : Memo t w p.rows
  pub opening : p.next ≡ inner job → Level job (p.at - course.level) s
  pub stop : p.next < inner job → Stopped job shares course s t w (λ (q : ℕ). get_or w (row_place (p.rows - 1) q) 0) p

-- what a node below is made from: at a stop its row is in `row`, and the stack has those before it
pub record Above (job : Job) (shares : Shares) (course : Course) (s : List Bool) (t x w row : List ℕ) (p : Node) : Type 0 where
  pub numbers : Numbers job shares course s t x p
  pub opening : p.next ≡ inner job → Opened job shares course s t w p
  pub stop : p.next < inner job → Stopped job shares course s t w (λ (q : ℕ). get_or row q 0) p

-- how many rows a node's walk keeps, where h removals are decided at a stop: not that of the stop at hand
abbrev pub kept_rows : ℕ → Node → ℕ
kept_rows h p = cond (ltb p.next h) (p.rows - 1) p.rows

-- a node below: what is given of it but for its name in the buffer, and what is kept
pub record Below (job : Job) (shares : Shares) (course : Course) (s : List Bool) (t x w w' : List ℕ) (p : Node) (b : Bool) (r : Node) : Type 0 where
  pub numbers : Numbers job shares course (snoc s b) t x r
  pub rows : Stacked job shares course (blocks_at job course (snoc s b)) w' r.rows
  pub memo : Memo t w' r.rows
  pub opening : r.next ≡ inner job → Level job (r.at - course.level) (snoc s b)
  pub stop : r.next < inner job → Stopped job shares course (snoc s b) t w' (λ (q : ℕ). get_or w' (row_place (r.rows - 1) q) 0) r
  pub frame : Recalled t w w' (kept_rows (inner job) p)
  pub kept_more : kept_rows (inner job) p ≤ kept_rows (inner job) r
  pub tree : tree_at job shares course r (snoc s b) ≡ below_tree job shares course p s b
  pub falls : (most_openings - r.at) * (most_parts + 1) + (most_parts - r.next) < (most_openings - p.at) * (most_parts + 1) + (most_parts - p.next)

-- the node is within the limit, e is what its estimate comes to with the lift of its level, and that is less than the cost that is known
pub record Undercuts (t lifts w : List ℕ) (limit : ℕ) (p : Node) (e : ℕ) (a : State) : Type 0 where
  pub within : a.count < limit
  pub estimate : e ≡ p.spent + sum_lanes lane_count_lem (λ (q : ℕ). lane t w suffix_base p.at q p.rows) + get_or lifts p.at 0
  pub less : e < a.cost

-- what the walk of a node does: the search's, and what it keeps
pub record SharesWalked (job : Job) (shares : Shares) (course : Course) (s : List Bool) (t w w' : List ℕ) (name name' best best' : List Bool) (limit : ℕ) (p : Node) (a r : State) : Type 0 where
  pub search : view r best' ≡ limited limit (tree_at job shares course p s) s (view a best)
  pub frame : Recalled t w w' (kept_rows (inner job) p)
  pub name_kept : take p.size name' ≡ take p.size name
  pub room : (length name' ≡ length name) × (length best' ≡ length best)
  pub lower : r.cost ≤ a.cost

-- the tables of a job's walks, by these shares
pub record Solvable (job : Job) (shares : Shares) (lanes : List Held) (t x : List ℕ) : Type 0 where
  pub tables : SharedTables job shares lanes t
  pub shared : ShareTable job shares lanes x
  pub lanes_are : Lanes job shares lanes

-- what the walk of a course is given: the tables, the lifts, and a stack whose rows are the sources of its level
pub record Ready (job : Job) (shares : Shares) (course : Course) (level : ℕ) (t x lifts w : List ℕ) : Type 0 where
  pub solvable : Solvable job shares course.held t x
  pub idle : Idle job shares course
  pub begins : course.level ≡ level
  pub inside : level ≤ length job.openings
  pub lift : (k : ℕ) → k ≤ length job.openings → get_or lifts k 0 ≡ course.lift k
  pub rows : Stacked job shares course (blocks_at job course []) w (level + 1)
  pub memo : Memo t w (level + 1)

-- the search of a course, from a cost that is to be undercut
abbrev pub course_under : Job → Shares → Course → ℕ → ℕ → Limited
course_under job shares course cost limit = walk_under (sourced_tree job shares course.lift course.level course.sources) cost limit
