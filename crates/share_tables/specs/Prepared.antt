-- A job's lanes, always sixteen: past its last part each is a part that lasts to the end. And its prices with all shares.
use Rattle.std.specs.Prelude.{Bool, ℕ, ◌+◌, ◌*◌, ◌/◌, ◌%◌, ◌<◌, ◌≤◌, ◌≡◌, List, [], length, get_or}
use Rattle.model.specs.Limits.{longest_life, most_openings, most_parts}
use Rattle.model.specs.Model.{Job, sum, table}
use Rattle.model.specs.Decisions.{Held, held_parts}
use Rattle.shares.specs.Shares.{FairShares}
use Rattle.lane_rows.specs.Layout.{lane_count_lem, dear}
use Rattle.share_rows.specs.Places.{bear_place}
use Rattle.share_walk.specs.State.{Solvable}
use Rattle.fair_shares.specs.Checked.{shares_in, Kept, Marked}

-- a part that lasts to the end of every job
abbrev pub spare_held : Held
spare_held = record { part = record { life = longest_life; left = longest_life; removal = 0; holders = []; prices = [] }; needs = [] }

-- the lanes of a job
abbrev pub lanes_of : Job → List Held
lanes_of job = table (λ (q : ℕ). get_or (held_parts job) q spare_held) lane_count_lem

-- sixteen lives or first lives: those of the parts, and past them the longest
pub record Padded (ls r : List ℕ) : Type 0 where
  pub size : length r ≡ lane_count_lem
  pub lives : (q : ℕ) → q < lane_count_lem → get_or r q 0 ≡ get_or ls q longest_life

-- what lane q bears of the first things at opening k, by the table x
abbrev pub borne_at_lem : List ℕ → ℕ → ℕ → ℕ → ℕ
borne_at_lem x things k q = sum 0 things (λ (m : ℕ). get_or x (bear_place m k q) 0)

-- the number at place i of the prices with all shares: 64 numbers a lane
abbrev pub shared_in : List ℕ → List ℕ → ℕ → ℕ → ℕ
shared_in ps x things i = get_or ps i 0 + borne_at_lem x things (i % most_openings) (i / most_openings)

-- no price with its shares is above the highest
abbrev pub Roomy : List ℕ → List ℕ → ℕ → Type 0
Roomy ps x things = (i : ℕ) → i < most_parts * most_openings → shared_in ps x things i ≤ dear

-- x is a marked table with what is kept of some shares, whatever they are
pub record KeptOf (nd : List Bool) (parts : ℕ) (ps fs rm x : List ℕ) : Type 0 where
  pub raw : List ℕ
  pub before : List ℕ
  pub marked : Marked nd parts rm before
  pub kept : Kept raw ps fs rm (length rm + 1) before x ((length rm + 1) * most_openings)

-- the tables t and x are those of a job's walk by fair shares
pub record Prepared (job : Job) (t x : List ℕ) : Type 0 where
  pub fair : FairShares job (shares_in x)
  pub solvable : Solvable job (shares_in x) (lanes_of job) t x
