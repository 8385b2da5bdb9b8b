-- A job with holders as the tables have it: a column for each lane, with the holding parts that it needs, and the removals of those. Each lane sees the decisions in its own way: a decided
-- opening is allowed to it or shut, and all else is as without holders. The bound is that of the job.
use Rattle.std.specs.Prelude.{ℕ, zero, suc, ◌+◌, ◌<◌, ◌≤◌, ◌≡◌, Bool, cond, List, [], map, length, get_or, take, eqb, ℤ, pos}
use Rattle.branch.specs.declared.Bound.{Bound}
use Rattle.branch.specs.declared.Bound.TheVariants.{Sum}
use Rattle.branch.specs.Lower.{add, total, larger, largest}
use Rattle.model.specs.Model.{Job, positions, end, last_change_lem, sum_at, fee_of, removal_of_lem}
use Rattle.model.specs.Decisions.{allows, Held, held_at, of_holders}
use Rattle.model.specs.LowerBound.{blocks, stops_in, removed_in}
use Rattle.model.specs.LastYes.{last_yes, Climbs}
use Rattle.model.specs.Verdict.{no_part}
use Rattle.lane_rows.specs.Sheet.{Column, Sheet, column_bound, column_fee, no_column}
use Rattle.lane_rows.specs.Tables.{Alike, fee_from}
pub use Rattle.lane_rows.specs.Sheet.{solid}

-- one lane: its column, and its class. The lanes of a class need the same holding parts
pub record HeldColumn : Type 0 where
  pub column : Column
  pub class : ℕ

-- the removals are those of the holding parts, by rising number; for each class, which of them come out with its parts. The first `parts` lanes are those of the parts; the others fill up a four
pub record HeldSheet : Type 0 where
  pub end : ℤ
  pub positions : List ℤ
  pub fees : List ℕ
  pub removals : List ℕ
  pub needs : List (List Bool)
  pub parts : ℕ
  pub lanes : List HeldColumn

-- a lane as it is without holders
abbrev pub column_in : HeldColumn → Column
column_in lane = lane.column

-- the same without holders
abbrev pub plain : HeldSheet → Sheet
plain sheet = record { end = sheet.end; positions = sheet.positions; fees = sheet.fees; parts = sheet.parts; columns = map column_in sheet.lanes }

-- a lane that is none of the sheet's
abbrev pub no_lane : HeldColumn
no_lane = record { column = no_column; class = 0 }

-- what a class needs
abbrev pub needs_of_lem : HeldSheet → ℕ → List Bool
needs_of_lem sheet c = get_or sheet.needs c []

-- how many removals are decided after a yes
abbrev pub held : HeldSheet → ℕ
held sheet = length sheet.removals

-- the blocks of a node's name
abbrev pub node_of : HeldSheet → List Bool → List (List Bool)
node_of sheet p = blocks (held sheet) (length sheet.positions) p

-- the decided openings as one with these needs sees them: "a part can be changed only where it and its holders are removed or undecided"
abbrev pub seen : List Bool → List (List Bool) → List Bool
seen needs bs = map (allows needs) bs

-- and as a lane sees them
abbrev pub seen_by : HeldSheet → List (List Bool) → HeldColumn → List Bool
seen_by sheet bs lane = seen (needs_of_lem sheet lane.class) bs

-- the fees of the stops, and the decided removals
abbrev pub paid_in : HeldSheet → List (List Bool) → ℕ
paid_in sheet bs = sum_at sheet.fees (stops_in bs) + removed_in sheet.removals bs

-- one lane's least price where these blocks are decided
abbrev pub lane_bound : HeldSheet → List (List Bool) → HeldColumn → List Bool → Bound
lane_bound sheet bs lane p = column_bound (plain sheet) lane.column (seen_by sheet bs lane)

-- the lanes' prices together
abbrev pub held_sums : HeldSheet → List (List Bool) → Bound
held_sums sheet bs = total (lane_bound sheet bs) sheet.lanes []

-- one lane's least fee of undecided openings
abbrev pub lane_fee : HeldSheet → List (List Bool) → HeldColumn → List Bool → Bound
lane_fee sheet bs lane p = column_fee (plain sheet) lane.column (seen_by sheet bs lane)

-- the lanes that are a part's; those that fill up a four have no term
abbrev pub part_lanes : HeldSheet → List HeldColumn
part_lanes sheet = take sheet.parts sheet.lanes

-- E4's term, which "uses these same places": the largest of these over the parts
abbrev pub held_term : HeldSheet → List (List Bool) → Bound
held_term sheet bs = largest (lane_fee sheet bs) (part_lanes sheet) []

-- W2, E4.2, E7.6. the bound of the node named p: what is paid, the lanes' prices and the term
unfoldable pub held_bound : HeldSheet → List Bool → Bound
held_bound sheet p = let bs = node_of sheet p in add (add (Sum (paid_in sheet bs)) (held_sums sheet bs)) (held_term sheet bs)

-- positions never fall, each class is one of the needs', the parts have lanes, and the lanes past them go with the first part's
pub record Classed (sheet : HeldSheet) : Type 0 where
  pub climbs : (q : ℕ) → q < length sheet.lanes → Climbs sheet.end (get_or sheet.lanes q no_lane).column.first sheet.positions
  pub classes : (q : ℕ) → q < length sheet.lanes → (get_or sheet.lanes q no_lane).class < length sheet.needs
  pub real : sheet.parts ≤ length sheet.lanes
  pub some : 0 < sheet.parts
  pub spare : (q : ℕ) → sheet.parts ≤ q → q < length sheet.lanes → Alike (get_or sheet.lanes 0 no_lane).column (get_or sheet.lanes q no_lane).column × ((get_or sheet.lanes q no_lane).class ≡ (get_or sheet.lanes 0 no_lane).class)

-- ---- the terms by classes

-- the largest of f over the numbers below k
unfoldable pub largest_to : (ℕ → Bound) → ℕ → Bound
largest_to f zero = Sum 0
largest_to f (suc k) = larger (largest_to f k) (f k)

-- the least fee of openings j and later that keeps a part of class c after mark i: the largest over its parts
unfoldable pub class_fee : HeldSheet → ℕ → ℕ → ℕ → Bound
class_fee sheet j i c = largest (λ (lane : HeldColumn) (p : List Bool). cond (eqb lane.class c) (fee_from (plain sheet) j i lane.column []) (Sum 0)) (part_lanes sheet) []

-- the last opening that is allowed to a class, numbered from 1; 0 if there is none
abbrev pub last_for : HeldSheet → List (List Bool) → ℕ → ℕ
last_for sheet bs c = last_yes (seen (needs_of_lem sheet c) bs)

-- ---- the sheet of a job

-- a part as its lane has it
pub record Laid (sheet : HeldSheet) (lane : HeldColumn) (held : Held) : Type 0 where
  pub life : lane.column.life ≡ pos held.part.life
  pub first : lane.column.first ≡ last_change_lem held.part
  pub prices : lane.column.prices ≡ held.part.prices
  pub needs : needs_of_lem sheet lane.class ≡ held.needs

-- a lane past the last part goes with the first part's and costs nothing
pub record Fills (sheet : HeldSheet) (lane leader : HeldColumn) : Type 0 where
  pub life : lane.column.life ≡ leader.column.life
  pub first : lane.column.first ≡ leader.column.first
  pub prices : (j : ℕ) → get_or lane.column.prices j 0 ≡ 0
  pub needs : needs_of_lem sheet lane.class ≡ needs_of_lem sheet leader.class

-- the sheet holds the job: its openings, the removals of its holding parts, and a lane for each part
pub record SheetOf (job : Job) (sheet : HeldSheet) : Type 0 where
  pub ends : sheet.end ≡ end job
  pub places : sheet.positions ≡ positions job
  pub fees : sheet.fees ≡ map fee_of job.openings
  pub removals : sheet.removals ≡ of_holders job (map removal_of_lem job.parts)
  pub parts : sheet.parts ≡ length job.parts
  pub some : 0 < length job.parts
  pub real : length job.parts ≤ length sheet.lanes
  pub lane : (q : ℕ) → q < length job.parts → Laid sheet (get_or sheet.lanes q no_lane) (held_at job q (get_or job.parts q no_part))
  pub fills : (q : ℕ) → length job.parts ≤ q → q < length sheet.lanes → Fills sheet (get_or sheet.lanes q no_lane) (get_or sheet.lanes 0 no_lane)
