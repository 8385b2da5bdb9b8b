-- What the functions over the rows of stops ask and do.
use Rattle.std.specs.Prelude.{ℕ, ◌+◌, ◌-◌, ◌<◌, ◌≤◌, ◌≡◌, Bool, cond, not, List, length, get_or}
use Rattle.model.specs.Decisions.{accessible}
use Rattle.model.specs.Limits.{most_openings}
use Rattle.lane_rows.specs.Layout.{lane_count_lem, inf, suffix_base, known_place, lanes_in}
use Rattle.lane_rows.specs.Rows.{lane, Looks, Recalled, Still, Put, Memo, Owing, next_row}
use Rattle.held_rows.specs.Held.{HeldSheet, no_lane, needs_of_lem}
use Rattle.held_lanes.specs.Places.{bit_at, classes_place, last_place, removed_place, pending_place, ready_place}
use Rattle.held_lanes.specs.Tables.{Masks, NoteAsks, noted}

-- the memo of the first n rows is known at level j, and nothing was lost
pub record ReadAt (t w w' : List ℕ) (n j : ℕ) : Type 0 where
  pub recalled : Recalled t w w' n
  pub known : get_or w' (known_place n j) 0 ≡ 1
  pub still : Still w w'

-- the set has the lanes that the stop is shut to, where its removals are rs
abbrev pub ShutSet : HeldSheet → List Bool → ℕ → Type 0
ShutSet sheet rs set = (q : ℕ) → q < length sheet.lanes → bit_at q set ≡ not (accessible (needs_of_lem sheet (get_or sheet.lanes q no_lane).class) rs)

-- a lane over the rows where the stop at opening j - 1 is shut to the lanes of the set
abbrev pub stop_lane : List ℕ → List ℕ → ℕ → ℕ → ℕ → ℕ → ℕ
stop_lane t w j n set q = cond (bit_at q set) (lane t w suffix_base j q n) (lane t w suffix_base (j - 1) q n)

-- what their sum asks: a look at both levels
pub record LooksAtStop (t u w : List ℕ) (n j : ℕ) : Type 0 where
  pub later : 0 < j
  pub allowed : Looks t w n (j - 1)
  pub shut : Looks t w n j
  pub masks : Masks u

-- the row of a stop at opening j, above n rows, is there once it is ready
abbrev pub Pended : List ℕ → List ℕ → List ℕ → ℕ → ℕ → Type 0
Pended t w v j n = (q : ℕ) → q < lanes_in t → get_or v (pending_place n q) 0 ≡ next_row t w j n q

-- it is there and ready, and nothing else moved
pub record Pends (t w v v' : List ℕ) (j n : ℕ) : Type 0 where
  pub size : length v' ≡ length v
  pub row : Pended t w v' j n
  pub ready : get_or v' (ready_place n) 0 ≡ 1
  pub rest : (x : ℕ) → ((q : ℕ) → q < lane_count_lem → x ≡ pending_place n q → ⊥) → (x ≡ ready_place n → ⊥) → get_or v' x 0 ≡ get_or v x 0

-- what settling a stop asks, where `at` openings are decided with it
pub record SettleAsks (t u v w : List ℕ) (at rows : ℕ) : Type 0 where
  pub later : 0 < at
  pub near : at ≤ most_openings
  pub owing : Owing (lanes_in t) t w (at - 1) rows
  pub pended : get_or v (ready_place rows) 0 ≡ 1 → Pended t w v (at - 1) rows
  pub notes : NoteAsks u at rows

-- its row is written, and the memo is still right
pub record StopPut (t w w' : List ℕ) (at rows set : ℕ) : Type 0 where
  pub put : Put (lanes_in t) (λ (q : ℕ). cond (bit_at q set) inf (next_row t w (at - 1) rows q)) w w' rows at
  pub memo : Memo t w rows → Memo t w' (rows + 1)

-- its marks and removals are noted, its row is kept aside, and nothing else moved
pub record StopNoted (t u w v v' : List ℕ) (at rows set removed : ℕ) : Type 0 where
  pub size : length v' ≡ length v
  pub lasts : (c : ℕ) → c < get_or u classes_place 0 → get_or v' (last_place rows c) 0 ≡ noted u v at rows set c
  pub removals : get_or v' (removed_place (at - 1)) 0 ≡ removed
  pub row : Pended t w v' (at - 1) rows
  pub rest : (x : ℕ) → ((c : ℕ) → c < lane_count_lem → x ≡ last_place rows c → ⊥) → ((q : ℕ) → q < lane_count_lem → x ≡ pending_place rows q → ⊥) → (x ≡ ready_place rows → ⊥) → (x ≡ removed_place (at - 1) → ⊥) → get_or v' x 0 ≡ get_or v x 0
