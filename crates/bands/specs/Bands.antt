-- E11. Jobs that differ in their prices alone, and choices of prices within bands: each price is at least that of the one job, at most that of the other.
use Rattle.std.specs.Prelude.{◌≡◌, [], map, ◌≤◌}
use Rattle.model.specs.Model.{Part, Job, Plan, Each, cost_of_lem}

-- a part without its prices
abbrev pub unpriced_part : Part → Part
unpriced_part p = record { life = p.life; left = p.left; removal = p.removal; holders = p.holders; prices = [] }

-- a job without its prices
abbrev pub unpriced : Job → Job
unpriced job = record { horizon = job.horizon; idles = job.idles; openings = job.openings; parts = map unpriced_part job.parts }

-- no price of the one part is above the other's at the same opening
abbrev pub PricesUpTo : Part → Part → Type 0
PricesUpTo p q = Each ◌≤◌ p.prices q.prices

-- the two jobs differ in their prices alone, and no price of the first is above that of the second
pub record UpTo (job other : Job) : Type 0 where
  pub same : unpriced job ≡ unpriced other
  pub prices : Each PricesUpTo job.parts other.parts

-- E11. "For every choice of prices within the bands": from the prices of the job `low` to those of the job `high`
pub record WithinBands (low high job : Job) : Type 0 where
  pub from : UpTo low job
  pub to : UpTo job high

-- E11. "the plan's cost lies between the two", and each of the two is the cost for one such choice
pub record CostBand (low high : Job) (plan : Plan) : Type 0 where
  pub between : (job : Job) → WithinBands low high job → (cost_of_lem low plan ≤ cost_of_lem job plan) × (cost_of_lem job plan ≤ cost_of_lem high plan)
  pub low_within : WithinBands low high low
  pub high_within : WithinBands low high high
