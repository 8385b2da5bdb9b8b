-- What the search hands back, as the model has it.
use Rattle.std.specs.Prelude.{ℕ, ◌≡◌, Bool, List, [], map, length, take}
use Rattle.branch.specs.Search.{Incumbent, Limited, at_most}
use Rattle.model.specs.Model.{Job, Part, Plan}
use Rattle.model.specs.Promise.{PlannerAnswer}
use Rattle.model.specs.Unheld.{plain_part_choice, plain_bound, plain_tree}
use Rattle.jobs.specs.declared.Changes.{Changes}
use Rattle.jobs.specs.declared.Plan as code
use Rattle.search_state.specs.declared.Solved.{Solved}
use Rattle.search_state.specs.State.{found_as}
use Rattle.search_state.specs.Answer.{answer_with}
use Rattle.search.specs.declared.Found.{Found}

-- what a walk found, with this plan
abbrev pub found_by_lem : Solved → code.Plan → Found
found_by_lem s p = record { count = s.count; over = s.over; cost = s.cost; floor = s.floor; plan = p }

-- the stops, where there are n openings
abbrev pub stops_found : ℕ → Found → List Bool
stops_found n r = take n r.plan.stops

-- one part's changes
abbrev pub row_in : ℕ → Changes → List Bool
row_in n row = take n row.at

-- the changes of m parts
abbrev pub changes_in : ℕ → ℕ → Found → List (List Bool)
changes_in n m r = map (row_in n) (take m r.plan.changes)

-- the best full plan, if one was found: its name is its stops
abbrev pub incumbent_in : ℕ → Found → Incumbent
incumbent_in n r = found_as (stops_found n r) r.cost

-- the walk's last state as the search has it
abbrev pub limited_in : ℕ → Found → Limited
limited_in n r = record { count = r.count; over = r.over; incumbent = incumbent_in n r }

-- the walk over the openings alone, of a job at whose prices nothing is left to add (`model/Unheld`): the nodes walked, whether there are more, and the best full plan among them; the floor; and the tie
-- rule's changes within the stops
pub record Finds (job : Job) (limit : ℕ) (r : Found) : Type 0 where
  pub walked : limited_in (length job.openings) r ≡ at_most limit (plain_tree job)
  pub floor : r.floor ≡ plain_bound job []
  pub changes : changes_in (length job.openings) (length job.parts) r ≡ map (λ (part : Part). plain_part_choice job part (stops_found (length job.openings) r)) job.parts

-- the plan that the code holds
abbrev pub plan_found : ℕ → ℕ → Found → Plan
plan_found n m r = record { stops = stops_found n r; changes = changes_in n m r }

-- the planner's answer, read off what the code holds, where there are n openings and m parts
abbrev pub said_in : ℕ → ℕ → Found → PlannerAnswer
said_in n m r = answer_with (plan_found n m r) r.count r.floor r.over r.cost
