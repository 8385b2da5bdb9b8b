-- The code's node as the search's, and what the walk is given at a node.
use Rattle.std.specs.Prelude.{ℕ, ◌+◌, ◌*◌, ◌^◌, ◌<◌, ◌≤◌, ◌≡◌, Bool, true, false, List, [], length}
use Rattle.branch.specs.declared.Bound.{Bound}
use Rattle.branch.specs.declared.Bound.TheVariants.{Sum}
use Rattle.branch.specs.Search.{snoc, at_most}
use Rattle.branch.specs.Label.{tree_of}
use Rattle.model.specs.Model.{sum_at}
use Rattle.walk.specs.declared.Node.{Node}
use Rattle.search_state.specs.declared.Solved.{Solved}
use Rattle.search_state.specs.State.{bits, limited_s}
use Rattle.lane_rows.specs.Layout.{lane_count_lem, top, inf}
use Rattle.lane_rows.specs.Sheet.{Sheet, part_sums, sheet_bound}
use Rattle.lane_rows.specs.Tables.{Tables, FeeTerms}
use Rattle.lane_rows.specs.Rows.{Rows, Memo}

-- W1. the yes and no of a node, for the openings before `at`
abbrev pub decided : Node → List Bool
decided p = bits p.at p.mask

-- the two nodes below
abbrev pub no_n : Node → ℕ → Node
no_n p n = record { at = p.at + 1; rows = n; spent = p.spent; mask = p.mask * 2 }

-- W4. "then stop": its fee is spent
abbrev pub yes_n : Node → ℕ → ℕ → Node
yes_n p n fee = record { at = p.at + 1; rows = n; spent = p.spent + fee; mask = p.mask * 2 + 1 }

-- the stack holds the node's rows, or where the last decision is a yes all but its last
pub data Pending (sheet : Sheet) (w : List ℕ) (q : List Bool) (n : ℕ) : Bool → Type 0 where
  ready : Rows sheet w q n → Pending sheet w q n false
  owed : (q₀ : List Bool) → q ≡ snoc q₀ true → Rows sheet w q₀ n → Pending sheet w q n true

-- what the walk is given: the node p of the sheet, with its part sums e, and the memo of the rows that are there
pub record At (sheet : Sheet) (t w : List ℕ) (p : Node) (stop : Bool) (e : Bound) : Type 0 where
  pub tables : Tables sheet t
  pub terms : FeeTerms sheet t
  pub inside : p.at ≤ length sheet.positions
  pub mask : p.mask < 2 ^ p.at
  pub spent : p.spent ≡ sum_at sheet.fees (decided p)
  pub poor : p.spent ≤ top * p.at
  pub sums : e ≡ part_sums sheet (decided p)
  pub low : (x : ℕ) → e ≡ Sum x → x ≤ lane_count_lem * inf
  pub memo : Memo t w p.rows
  pub rows : Pending sheet w (decided p) p.rows stop

-- what the search of a sheet gives: the first node's bound, and the walk's last state
pub record Solves (sheet : Sheet) (limit : ℕ) (r : Solved) : Type 0 where
  pub floor : r.floor ≡ sheet_bound sheet []
  pub walked : limited_s (length sheet.positions) r ≡ at_most limit (tree_of (sheet_bound sheet) (length sheet.positions) [])
