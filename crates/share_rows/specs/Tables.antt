-- A job's parts as lanes, and what the tables of the walk and the table of shares hold of them. There are sixteen lanes: those past the last part's cost nothing.
use Rattle.std.specs.Prelude.{ℕ, ◌<◌, ◌≤◌, ◌≡◌, Bool, false, cond, List, [], map, length, get_or, pos}
use Rattle.branch.specs.declared.Bound.TheVariants.{Sum}
use Rattle.model.specs.Limits.{most_openings, most_parts}
use Rattle.model.specs.Model.{Job, positions, end, last_change_lem, fee_of, removal_of_lem}
use Rattle.model.specs.Decisions.{of_holders, Held, held_parts}
use Rattle.model.specs.LowerBound.{inner}
use Rattle.model.specs.Verdict.{no_part}
use Rattle.shares.specs.Shares.{Shares, things, takes, bears, shared_prices}
use Rattle.shares.specs.Sources.{mark_of, rest_at}
use Rattle.lane_rows.specs.Layout.{lane_count_lem, top, fee_place, count_place, lanes_in, tables_size}
use Rattle.lane_rows.specs.Sheet.{Column}
use Rattle.lane_rows.specs.Tables.{Lane}
use Rattle.share_rows.specs.Places.{bear_place, take_place, removal_place, holds_place, share_size}

-- a lane that is none
abbrev pub no_held : Held
no_held = record { part = no_part; needs = [] }

-- the part of lane q
abbrev pub lane_at : List Held → ℕ → Held
lane_at lanes q = get_or lanes q no_held

-- its column where these blocks are decided: it bears its prices and its shares of what is undecided
abbrev pub column_of : Job → Shares → List (List Bool) → ℕ → Held → Column
column_of job shares bs q held = record { life = pos held.part.life; first = last_change_lem held.part; prices = shared_prices job shares q held bs }

-- the lanes of a job: its parts, and past them parts that cost nothing, whatever is decided and after whichever change
pub record Lanes (job : Job) (shares : Shares) (lanes : List Held) : Type 0 where
  pub few : length (held_parts job) ≤ lane_count_lem
  pub real : (q : ℕ) → q < length (held_parts job) → lane_at lanes q ≡ get_or (held_parts job) q no_held
  pub spare : (q : ℕ) → length (held_parts job) ≤ q → q < lane_count_lem → (l : ℕ) (bs : List (List Bool)) (k : ℕ) → k ≤ length job.openings → rest_at job shares l bs q (lane_at lanes q) (mark_of job (lane_at lanes q) k) ≡ Sum 0

-- the tables of the walk: least prices from an opening on, with all shares; which openings are in reach; prices with all shares; the fees
pub record SharedTables (job : Job) (shares : Shares) (lanes : List Held) (t : List ℕ) : Type 0 where
  pub size : length t ≡ tables_size
  pub few : length job.openings ≤ most_openings
  pub wide : lanes_in t ≡ lane_count_lem
  pub lane : (q : ℕ) → q < lane_count_lem → Lane (end job) (positions job) (column_of job shares [] q (lane_at lanes q)) t q
  pub fees : (k : ℕ) → k < length job.openings → get_or t (fee_place k) 0 ≡ get_or (map fee_of job.openings) k 0
  pub fair : (k : ℕ) → get_or (map fee_of job.openings) k 0 ≤ top
  pub count : get_or t count_place 0 ≡ length job.openings

-- the table of shares
pub record ShareTable (job : Job) (shares : Shares) (lanes : List Held) (x : List ℕ) : Type 0 where
  pub size : length x ≡ share_size
  pub bears_are : (m k q : ℕ) → m < things job → k < length job.openings → q < lane_count_lem → get_or x (bear_place m k q) 0 ≡ bears shares q k (lane_at lanes q) m
  pub takes_are : (m q : ℕ) → m < things job → q < lane_count_lem → get_or x (take_place m q) 0 ≡ cond (get_or (takes (lane_at lanes q)) m false) 1 0
  pub removals : (b : ℕ) → b < inner job → get_or x (removal_place b) 0 ≡ get_or (of_holders job (map removal_of_lem job.parts)) b 0
  pub cheap : (b : ℕ) → get_or (of_holders job (map removal_of_lem job.parts)) b 0 ≤ top
  pub holds : get_or x holds_place 0 ≡ inner job
  pub few : inner job ≤ most_parts
