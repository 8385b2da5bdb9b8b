-- What fields of `Delivered` speak of that stands nowhere else: the judge's and the planner's promises in the published terms, a part that can't be kept, and the lines of a part that is carried on.
use Rattle.std.specs.Prelude.{ℕ, ◌≤◌, ◌≡◌, Bool, List, [], ◌∷◌, ◌++◌, map, drop, true, false, get_or, ◌⊎◌}
use Rattle.lines.specs.Text.{line_of, texts}
use Rattle.lines.specs.Parser.{accepted}
use Rattle.branch.specs.declared.Bound.{Bound}
use Rattle.branch.specs.declared.Bound.TheVariants.{Sum}
use Rattle.branch.specs.Lower.{add}
use Rattle.model.specs.Model.{Job, Plan, NoHolders, Each, Chosen}
use Rattle.model.specs.Decisions.{Held, held_parts, changed_at_lem}
use Rattle.branch.specs.Search.{Before}
use Rattle.model.specs.LowerBound.{places_at}
use Rattle.model.specs.Estimate.{KeepsOver}
use Rattle.published.specs.Published.{PublishedRunning, objective}
use Rattle.plan_grammar.specs.Grammar.{read_plan_lem}
use Rattle.plan_grammar.specs.Rendering.{visit_text, visits_of}
use Rattle.carry.specs.Carry.{Log}
use Rattle.answers.specs.Said.{Said}
use Rattle.quotes.specs.Grammar.{Quote, single}
use Rattle.price_rules.specs.Rule.{Rule, rule_prices_lem}
use Rattle.price_rules.specs.Grammar.{by_list, by_rule_lem}
use Rattle.part_lines.specs.Grammar.{PartText}
use Rattle.judging.specs.Promise as judging
use Rattle.job_grammar.specs.Grammar.{Given}
use Rattle.plan_printing.specs.Printed.{low_lines}
use Rattle.planning.specs.Plan.{search_lines}
use Rattle.branch.specs.Search.{In}

-- ---- the estimate

-- W3. "If some part has none": no change set keeps it over the yes openings and all undecided ones of the node p
abbrev pub SomeLost : Job → List Bool → Type 0
SomeLost job p = (held : Held) × In held (held_parts job) × ((cs : List Bool) → KeepsOver job held.part (places_at job held p) cs → ⊥)

-- the sum of some floors; missing if one is
abbrev pub floors : List Bound → Bound
floors [] = Sum 0
floors (b ∷ bs) = add b (floors bs)

-- ---- the published model, of texts

module _ {job plan : List ℕ} where
  -- the plan meets the published constraints
  abbrev pub Meets : judging.PlanReading job plan → Type 0
  Meets r = PublishedRunning r.given.job r.stated.plan

  -- and states the published objective as its cost
  abbrev pub StatesObjective : judging.PlanReading job plan → Type 0
  StatesObjective r = r.stated.cost ≡ objective r.given.job r.stated.plan

-- some plan meets the published constraints
abbrev pub Feasible : Job → Type 0
Feasible job = (plan : Plan) × PublishedRunning job plan

-- D6, D7, T1 to T3. what is printed with 0: behind `floor`, E11. and behind the cost at the low ends where the job text has a `low` line, a plan that meets the published constraints, its objective as its cost, and no plan that meets
-- them has a smaller one
pub record Cheapest (given : Given) (s : Said) : Type 0 where
  pub nodes : ℕ
  pub floor : ℕ
  pub cost : ℕ
  pub plan : Plan
  pub lines : List ℕ
  pub written : s.bytes ≡ search_lines 0 nodes floor ++ (low_lines given plan ++ lines)
  pub reads_back : read_plan_lem given.job lines ≡ accepted (record { cost = cost; plan = plan })
  pub meets : PublishedRunning given.job plan
  pub states : cost ≡ objective given.job plan
  pub least : (other : Plan) → PublishedRunning given.job other → cost ≤ objective given.job other
  -- T1. "Of two stop sets of equal least cost, the one that makes no stop at the earliest opening where they differ is taken.": in a job without holders (with them: E7.8)
  pub first : NoHolders given.job.parts → (other : Plan) → PublishedRunning given.job other → objective given.job other ≡ cost → (other.stops ≡ plan.stops) ⊎ Before plan.stops other.stops
  -- T2. "Within the stops, each part's least-price change set is chosen the same way.", its prices with its removal
  pub chosen : NoHolders given.job.parts → Each (λ (held : Held). Chosen given.job plan.stops held.part) (held_parts given.job) plan.changes
  -- T3. "So a printed plan has no stop without a change."
  pub no_bare : (i : ℕ) → get_or plan.stops i false ≡ true → changed_at_lem plan.changes i ≡ true

-- ---- carrying on

-- E12.1. the lines of a log of the job so far, in which n stops are announced
abbrev pub log_front : Job → Log → ℕ → List ℕ
log_front job log n = line_of "step=" log.step ++ (line_of "cost=" log.cost ++ (line_of "stops=" n ++ texts visit_text (visits_of job log.plan)))

-- E12.3. what a part's lines say in the job that is left, where k of n openings are past: "A part given by E8's rule is written with `price` lines", "every other form is kept", the lines of removal
-- where they stood and each price as it was quoted
pub record KeptLines (n k : ℕ) (before left : PartText) : Type 0 where
  pub life : left.life ≡ before.life
  pub cover : left.cover ≡ before.cover
  pub listed : (qs : List Quote) → before.prices ≡ by_list qs → left.prices ≡ by_list (drop k qs)
  pub ruled : (r : Rule) → before.prices ≡ by_rule_lem r → left.prices ≡ by_list (drop k (map single (rule_prices_lem r n)))
