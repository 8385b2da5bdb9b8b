-- The published model, over the steps 1 to T: the variables, the objective (1) and the constraints (2) and (3) of source 001, the constraint (1c) of source 000; and what ties a job's plans to them.
-- "Stops may be made only at named steps, the openings": at any other step the variables are 0.
use Rattle.std.specs.Prelude.{◌≡◌, Bool, false, cond, ◌&&◌, map, ◌↔◌, ℕ, ◌+◌, ◌*◌, ◌≤◌, ◌<◌, ltb, leb, length, get_or}
use Rattle.model.specs.Model.{Job, Plan, running, table, fee_of, out_at, sum, cost_of_lem, KeepsLives}
use Rattle.model.specs.Windows.{Rising, steps_of, at_step}
use Rattle.model.specs.Verdict.{part_at, changes_at}

-- ---- variables

-- "∈ {0, 1}": a yes is 1, a no 0
abbrev pub binary : Bool → ℕ
binary b = cond b 1 0

-- d_t, "a fixed cost [..] associated with a maintenance occasion at time t": the fee of the opening at step t
abbrev pub occasion_cost : Job → ℕ → ℕ
occasion_cost job t = at_step 0 (steps_of job.openings) (map fee_of job.openings) t

-- c_it, "the purchase cost at time t for component i": the price of part number i + 1 at the opening at step t
abbrev pub purchase_cost : Job → ℕ → ℕ → ℕ
purchase_cost job i t = at_step 0 (steps_of job.openings) (part_at job i).prices t

-- a_it of 001, the cost of dismounting component i: the removal of part number i + 1, the same at each opening
abbrev pub dismounting_cost : Job → ℕ → ℕ → ℕ
dismounting_cost job i t = at_step 0 (steps_of job.openings) (table (λ _. (part_at job i).removal) (length job.openings)) t

-- z_t: 1 if a stop is made at step t
abbrev pub z : Job → Plan → ℕ → ℕ
z job plan t = binary (at_step false (steps_of job.openings) plan.stops t)

-- x_it: 1 if part number i + 1 is changed at step t
abbrev pub x : Job → Plan → ℕ → ℕ → ℕ
x job plan i t = binary (at_step false (steps_of job.openings) (changes_at plan i) t)

-- y_it of 001: 1 if part number i + 1 comes out at step t, by itself or with another; of the sets that (4) and (5) allow this is the least (`Dismounting`)
abbrev pub y : Job → Plan → ℕ → ℕ → ℕ
y job plan i t = binary (at_step false (steps_of job.openings) (table (λ k. get_or (out_at job plan.changes k) i false) (length job.openings)) t)

-- ---- the objective

-- (1) of 001: the sum over the steps t of (the sum over the parts i of c_it x_it + a_it y_it) + d_t z_t; where no part has a removal it is (1a) of 000
unfoldable pub objective : Job → Plan → ℕ
objective job plan = sum 1 job.horizon (λ t. sum 0 (length job.parts) (λ i. purchase_cost job i t * x job plan i t + dismounting_cost job i t * y job plan i t) + occasion_cost job t * z job plan t)

-- ---- the constraints

-- (1f), (1g): a stop is made or not at each opening, and each part is changed or not at each opening
pub record Variables (job : Job) (plan : Plan) : Type 0 where
  pub stops : length plan.stops ≡ length job.openings
  pub parts : length plan.changes ≡ length job.parts
  pub changes : (i : ℕ) → i < length job.parts → length (changes_at plan i) ≡ length job.openings

-- (1c), and (10) of 001: x_it ≤ z_t
abbrev pub AtStops : Job → Plan → Type 0
AtStops job plan = (i t : ℕ) → i < length job.parts → 1 ≤ t → t ≤ job.horizon → x job plan i t ≤ z job plan t

-- the constraints on a plan of a job without idle steps, of "those windows of 001 that end by step T"
pub record Published (job : Job) (plan : Plan) : Type 0 where
  pub variables : Variables job plan
  -- (2): the sum of x_it over t = 1 to R is at least 1
  pub first : (i : ℕ) → i < length job.parts → (part_at job i).left ≤ job.horizon → 1 ≤ sum 1 (part_at job i).left (x job plan i)
  -- (3): the sum of x_it over t = k + 1 to k + L is at least 1, for k = 1 to T − L
  pub later : (i k : ℕ) → i < length job.parts → 1 ≤ k → k + (part_at job i).life ≤ job.horizon → 1 ≤ sum (k + 1) (part_at job i).life (x job plan i)
  pub at_stops : AtStops job plan

-- the sum of f over the steps of the window after step k and up to running step b
abbrev pub running_sum : Job → ℕ → ℕ → (ℕ → ℕ) → ℕ
running_sum job k b f = sum 1 job.horizon (λ t. binary (ltb k t && leb (running job.idles t) b) * f t)

-- the same where steps are idle: windows of running steps, those that end within the horizon
pub record PublishedRunning (job : Job) (plan : Plan) : Type 0 where
  pub variables : Variables job plan
  -- (2): the sum of x_it over the steps up to running step R is at least 1
  pub first : (i : ℕ) → i < length job.parts → (part_at job i).left ≤ running job.idles job.horizon → 1 ≤ running_sum job 0 (part_at job i).left (x job plan i)
  -- (3): the sum of x_it over the steps after step k, until L running steps and the idle ones after them have passed, is at least 1, for each step k of the horizon that L running steps follow
  pub later : (i k : ℕ) → i < length job.parts → 1 ≤ k → k ≤ job.horizon → running job.idles k + (part_at job i).life ≤ running job.idles job.horizon
      → 1 ≤ running_sum job k (running job.idles k + (part_at job i).life) (x job plan i)
  pub at_stops : AtStops job plan

-- ---- tied to it

-- what is asked of the job
pub record ProperJob (job : Job) : Type 0 where
  -- "Openings rise and stay within the horizon", and so do idle steps
  pub openings : Rising 0 job.horizon (steps_of job.openings)
  pub idles : Rising 0 job.horizon job.idles
  -- "a first life R ("left"), with R at most L"; it may be 0
  pub left_high : (i : ℕ) → i < length job.parts → (part_at job i).left ≤ (part_at job i).life
  -- "one `price` [..] per opening"
  pub prices : (i : ℕ) → i < length job.parts → length (part_at job i).prices ≡ length job.openings

-- the plan keeps the lives exactly if it meets the constraints, and its cost is the objective
pub record Tied (job : Job) (plan : Plan) (Constraints : Type 0) : Type 0 where
  pub keeps : KeepsLives job plan ↔ Constraints
  pub cost : cost_of_lem job plan ≡ objective job plan
