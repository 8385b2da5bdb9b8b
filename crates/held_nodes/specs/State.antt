-- The code's state and node as the search's, with the removals of each stop, and what the walk is given at a node.
use Rattle.std.specs.Prelude.{ℕ, zero, suc, ◌+◌, ◌-◌, ◌*◌, ◌/◌, ◌%◌, ◌^◌, ◌<◌, ◌≤◌, ◌≡◌, Bool, true, false, cond, List, [], ◌∷◌, ◌++◌, eqb, length, get_or}
use Rattle.branch.specs.declared.Bound.TheVariants.{Sum}
use Rattle.branch.specs.Search.{Tree, Limited, onward, at_most}
use Rattle.branch.specs.Questions.{left_at}
use Rattle.model.specs.Decisions.{concat}
use Rattle.lane_rows.specs.Layout.{lane_count_lem, top, inf}
use Rattle.lane_rows.specs.Tables.{Tables}
use Rattle.lane_rows.specs.Rows.{Memo, Recalled}
use Rattle.held_rows.specs.Held.{HeldSheet, plain, no_lane, held, seen_by, paid_in, held_sums, held_term, held_bound, Classed}
use Rattle.held_rows.specs.Rows.{SeenRows}
use Rattle.held_lanes.specs.Places.{last_place, removed_place, best_place, pending_place, ready_place, aside_size}
use Rattle.held_lanes.specs.Tables.{HeldTables, Lasts}
use Rattle.held_stops.specs.Stops.{ShutSet, Pended, StopPut, StopNoted}
use Rattle.search_state.specs.declared.Search.{Search}
use Rattle.search_state.specs.declared.Solved.{Solved}
use Rattle.search_state.specs.State.{bits, view_of, found_as}
use Rattle.held_nodes.specs.declared.Node.{Node}

-- ---- decisions in numbers

-- the blocks of k openings: the stops in a number, the latest in its lowest bit, and the removals of the stop at opening i in the number f i
unfoldable pub blocks_of : ℕ → (ℕ → ℕ) → ℕ → ℕ → List (List Bool)
blocks_of h f zero m = []
blocks_of h f (suc k) m = blocks_of h f k (m / 2) ++ (cond (eqb (m % 2) 1) (true ∷ bits h (f k)) (false ∷ []) ∷ [])

-- the removals that are decided, and the incumbent's
abbrev pub removals_in : List ℕ → ℕ → ℕ
removals_in v i = get_or v (removed_place i) 0

-- of the incumbent, the removals of the stop at opening i
abbrev pub best_in : List ℕ → ℕ → ℕ
best_in v i = get_or v (best_place i) 0

-- the incumbent's name
abbrev pub best_name : ℕ → ℕ → List ℕ → ℕ → List Bool
best_name h n v m = concat (blocks_of h (best_in v) n m)

-- the state as the search has it, with a limit, where there are n openings and h removals at each stop
abbrev pub view : ℕ → HeldSheet → List ℕ → Search → Limited
view limit sheet v s = view_of limit (best_name (held sheet) (length sheet.positions) v) s

-- ---- nodes

-- the nodes below an opening: no stop, and a stop
abbrev pub no_n : Node → ℕ → Node
no_n p r = record { at = p.at + 1; rows = r; next = p.next; owed = false; shut = 0; removed = 0; spent = p.spent; mask = p.mask * 2 }

-- a stop: its row is still owed, and no removal is decided yet; `paid` has its fee
abbrev pub yes_n : Node → ℕ → ℕ → Node
yes_n p r paid = record { at = p.at + 1; rows = r; next = 0; owed = true; shut = 0; removed = 0; spent = paid; mask = p.mask * 2 + 1 }

-- the nodes below a stop: the next holding part is not removed, and it is
abbrev pub stays_n : Node → ℕ → Node
stays_n p set = record { at = p.at; rows = p.rows; next = p.next + 1; owed = true; shut = set; removed = p.removed * 2; spent = p.spent; mask = p.mask }

-- it is removed: no further lane is shut, and `paid` has its removal
abbrev pub out_n : Node → ℕ → Node
out_n p paid = record { at = p.at; rows = p.rows; next = p.next + 1; owed = true; shut = p.shut; removed = p.removed * 2 + 1; spent = paid; mask = p.mask }

-- the node once its stop is settled
abbrev pub settled_n : Node → ℕ → Node
settled_n p r = record { at = p.at; rows = r; next = p.next; owed = false; shut = p.shut; removed = p.removed; spent = p.spent; mask = p.mask }

-- how many openings have their rows and removals written
abbrev pub written : Node → ℕ
written p = cond p.owed (p.at - 1) p.at

-- what is left to ask at a node whose blocks are ds
abbrev pub tree_at : HeldSheet → Node → List (List Bool) → Tree
tree_at sheet p ds = left_at (held_bound sheet) (held sheet) (held sheet - p.next) (length sheet.positions - p.at) (concat ds)

-- ---- what the walk is given

-- the decided openings as lane q sees them
abbrev pub sees_at : HeldSheet → List (List Bool) → ℕ → List Bool
sees_at sheet bs q = seen_by sheet bs (get_or sheet.lanes q no_lane)

-- the rows of whole blocks bs, of `at` openings, are there, with the last marks and the removals; m has the stops
pub record Written (sheet : HeldSheet) (bs : List (List Bool)) (t w v : List ℕ) (rows at m : ℕ) : Type 0 where
  pub size : length bs ≡ at
  pub rows_are : SeenRows (plain sheet) w (length bs) (sees_at sheet bs) rows
  pub memo : Memo t w rows
  pub lasts : Lasts sheet v bs (rows - 1)
  pub blocks : blocks_of (held sheet) (removals_in v) at m ≡ bs

-- the row of the stop at hand is right once it is ready
abbrev pub Pending : List ℕ → List ℕ → List ℕ → Node → Type 0
Pending t w v p = p.owed ≡ true → get_or v (ready_place p.rows) 0 ≡ 1 → Pended t w v (p.at - 1) p.rows

-- at a stop: the blocks bs before it are written, and its removals are rs so far
pub record StopAt (sheet : HeldSheet) (ds : List (List Bool)) (t w v : List ℕ) (p : Node) : Type 0 where
  pub bs : List (List Bool)
  pub rs : List Bool
  pub same : ds ≡ bs ++ ((true ∷ rs) ∷ [])
  pub later : 0 < p.at
  pub before : Written sheet bs t w v p.rows (p.at - 1) (p.mask / 2)
  pub price : ℕ
  pub there : held_sums sheet bs ≡ Sum price
  pub odd : p.mask % 2 ≡ 1
  pub next : p.next ≤ held sheet
  pub removed : bits p.next p.removed ≡ rs
  pub small : p.removed < 2 ^ p.next
  pub shut : ShutSet sheet rs p.shut

-- at an opening: all its blocks are written
pub record OpenAt (sheet : HeldSheet) (ds : List (List Bool)) (t w v : List ℕ) (p : Node) : Type 0 where
  pub all : Written sheet ds t w v p.rows p.at p.mask
  pub next : p.next ≡ held sheet

-- the node p of the sheet, whose blocks are ds, with its part sums x and its term g
pub record At (sheet : HeldSheet) (ds : List (List Bool)) (t u w v : List ℕ) (p : Node) (x g : ℕ) : Type 0 where
  pub tables : Tables (plain sheet) t
  pub holders : HeldTables sheet u
  pub fit : Classed sheet
  pub aside : length v ≡ aside_size
  pub inside : p.at ≤ length sheet.positions
  pub mask : p.mask < 2 ^ p.at
  pub spent : p.spent ≡ paid_in sheet ds
  pub poor : p.spent ≤ top * (p.at * (lane_count_lem + 1) + p.next)
  pub sums : held_sums sheet ds ≡ Sum x
  pub low : x ≤ lane_count_lem * inf
  pub term : held_term sheet ds ≡ Sum g
  pub cheap : g ≤ top * (length sheet.positions - p.at)
  pub pending : Pending t w v p
  pub stop : p.owed ≡ true → StopAt sheet ds t w v p
  pub opening : p.owed ≡ false → OpenAt sheet ds t w v p

-- ---- what the walk keeps

-- the last marks and kept rows of the first n rows, and the removals of the first k openings
pub record Aside (v v' : List ℕ) (n k : ℕ) : Type 0 where
  pub size : length v' ≡ length v
  pub lasts : (i c : ℕ) → i < n → c < lane_count_lem → get_or v' (last_place i c) 0 ≡ get_or v (last_place i c) 0
  pub removals : (i : ℕ) → i < k → get_or v' (removed_place i) 0 ≡ get_or v (removed_place i) 0
  pub rows : (i q : ℕ) → i < n → q < lane_count_lem → get_or v' (pending_place i q) 0 ≡ get_or v (pending_place i q) 0
  pub ready : (i : ℕ) → i < n → get_or v' (ready_place i) 0 ≡ get_or v (ready_place i) 0

-- what is kept of the stack and beside it: the first n rows with their memo, and the removals of the first k openings
pub record Frame (t w w' v v' : List ℕ) (n k : ℕ) : Type 0 where
  pub recalled : Recalled t w w' n
  pub aside : Aside v v' n k

-- the walk on from the node p, whose blocks are ds: the search's, and what it keeps
pub record HeldWalked (sheet : HeldSheet) (ds : List (List Bool)) (t w w' v v' : List ℕ) (limit : ℕ) (p : Node) (s r : Search) : Type 0 where
  pub search : view limit sheet v' r ≡ onward limit (tree_at sheet p ds) (concat ds) (view limit sheet v s)
  pub frame : Frame t w w' v v' p.rows (written p)
  pub pending : Pending t w' v' p

-- ---- what the functions beside it ask and do

-- a node is settled: at an opening nothing moves, a stop has its row and its marks written
pub record NodeSettled (t u w w' v v' : List ℕ) (p : Node) (r : ℕ) : Type 0 where
  pub no : p.owed ≡ false → (r ≡ p.rows) × (w' ≡ w) × (v' ≡ v)
  pub yes : p.owed ≡ true → (r ≡ p.rows + 1) × StopPut t w w' p.at p.rows p.shut × StopNoted t u w v v' p.at p.rows p.shut p.removed

-- ---- the whole search

-- what is handed over, as the search has it
abbrev pub limited_s : HeldSheet → List ℕ → Solved → Limited
limited_s sheet v r = record { count = r.count; over = r.over; incumbent = found_as (best_name (held sheet) (length sheet.positions) v r.mask) r.cost }

-- what the search of a sheet gives: the first node's bound, and the walk's last state
pub record HeldSolves (sheet : HeldSheet) (limit : ℕ) (v : List ℕ) (r : Solved) : Type 0 where
  pub floor : r.floor ≡ held_bound sheet []
  pub walked : limited_s sheet v r ≡ at_most limit (left_at (held_bound sheet) (held sheet) 0 (length sheet.positions) [])
