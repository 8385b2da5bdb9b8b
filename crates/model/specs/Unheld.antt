-- Jobs without holders: the definitions of E4, which stay for them. The walk decides the openings alone (W1 to W11), and a part comes out exactly where it is changed, so its removal is added to its
-- prices (`charged_job`). That the bound, tree, plans, cost and answer of a job without holders are these ones of the job so charged: `proofs/Unheld`.
use Rattle.std.specs.Prelude.{Bool, List, [], map, ℕ, ◌+◌, length, get_or}
use Rattle.branch.specs.declared.Bound.{Bound}
use Rattle.branch.specs.declared.Bound.TheVariants.{Sum}
use Rattle.branch.specs.Search.{Tree, at_most}
use Rattle.branch.specs.Label.{tree_of}
use Rattle.branch.specs.Lower.{add, total, largest}
use Rattle.branch.specs.Planning.{answered_at}
use Rattle.model.specs.Model.{Part, Job, Plan, table, sum_at, fee_of, prices_of_lem}
use Rattle.model.specs.LowerBound.{least_over, choice_over, undecided_fees}
use Rattle.model.specs.Promise.{PlannerAnswer}

-- ---- the job as it is planned for

-- E7.6. "a part that holds nobody adds its removal to its price", where there are n openings
abbrev pub charged_part : ℕ → Part → Part
charged_part n part = record {
  life = part.life;
  left = part.left;
  removal = 0;
  holders = [];
  prices = table (λ k. get_or part.prices k 0 + part.removal) n;
}

-- the job with all its parts so charged
abbrev pub charged_job : Job → Job
charged_job job = record {
  horizon = job.horizon;
  idles = job.idles;
  openings = job.openings;
  parts = map (charged_part (length job.openings)) job.parts;
}

-- ---- a node: W1. "A point is a yes or no for the first j openings."

-- W2. "the least price of a change set that keeps it over the yes openings and all undecided ones"
abbrev pub plain_part_bound : Job → Part → List Bool → Bound
plain_part_bound job part p = least_over job part part.prices p

-- T2. and the change set of that price which the tie rule takes
abbrev pub plain_part_choice : Job → Part → List Bool → List Bool
plain_part_choice job part p = choice_over job part part.prices p

-- E4.1. "the least total fee of undecided openings in any change set that keeps it over the yes and undecided openings"
abbrev pub plain_part_fee : Job → Part → List Bool → Bound
plain_part_fee job part p = least_over job part (undecided_fees (map fee_of job.openings) p) p

-- W2, W3. "the fees of its yes openings, plus, for each part, the least price [..]"; E4.2. "The largest of these over the parts is added to a point's estimate."
unfoldable pub plain_bound : Job → List Bool → Bound
plain_bound job p = add (add (Sum (sum_at (map fee_of job.openings) p)) (total (plain_part_bound job) job.parts p)) (largest (plain_part_fee job) job.parts p)

-- the plan of a full node: its yes openings are the stops, and each part is changed by its choice
abbrev pub plain_plan : Job → List Bool → Plan
plain_plan job s = record { stops = s; changes = map (λ (part : Part). plain_part_choice job part s) job.parts }

-- ---- the walk and the answer

-- W4. "A point with openings still undecided has two points below it: no stop at the next opening, then stop."
abbrev pub plain_tree : Job → Tree
plain_tree job = tree_of (plain_bound job) (length job.openings) []

-- the answer at the walk number `limit`
unfoldable pub plain_answer : Job → ℕ → PlannerAnswer
plain_answer job limit = answered_at (plain_plan job) (plain_bound job []) (at_most limit (plain_tree job))

-- ---- M11. a plan's cost: "the fees of its stops plus the prices of its changes"
abbrev pub plain_cost : Job → Plan → ℕ
plain_cost job q = sum_at (map fee_of job.openings) q.stops + prices_of_lem job.parts q.changes
