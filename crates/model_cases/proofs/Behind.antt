-- C1 with part 1 behind part 2, computed from the definitions; and with the two in a circle.
use mathlib.Core.Path.{◌≡◌, refl, subst}
use mathlib.Core.Bool.{true, false}
use mathlib.Core.List.{List, [], ◌∷◌, map}
use Prim.Native.Nat.{ℕ, ◌≤◌}
use lib.ListN.{replicate}
use Rattle.branch.specs.Search.{limited}
use Rattle.branch.specs.Questions.{ask_from}
use Rattle.branch.specs.Open.{open_nodes}
use Rattle.model.specs.Model.{Job, Plan, listed, running, clock, within, kept, last_within_lem, due_of_lem, table, holds_one, rounds, comes_out, holding, out_by, select, sum_at, sum, cost_of_lem, KeepsLives}
use Rattle.model.specs.Decisions.{held_from, accessible, concat, decisions_of}
use Rattle.model.specs.LowerBound.{least_of_lem, choice_of, offers, blocks, stop_cost, undecided_fees, bound_of}
use Rattle.model.specs.Promise.{cut_none, cut, optimum, answer_of, Promise}
use Rattle.longest_walk.specs.Longest.{longest}
use Rattle.longest_walk.specs.Count.{each_reaches, each_kept, count_from, open_count}
use Rattle.model.specs.Verdict.{accepts, wrong_cost, first_late, verdict_from, judged_of}
use Rattle.model.proofs.Promised.{promise}
use Rattle.model.proofs.Worked.{printed, twice}

-- removals 1 and 3; part 1's holder is part 2, and these are part 2's
abbrev hidden : List ℕ → Job
hidden holders = record {
  horizon = 6;
  idles = [];
  openings = map (λ (step : ℕ). record { step = step; fee = 10 }) (2 ∷ 3 ∷ 4 ∷ 5 ∷ []);
  parts =
      record { life = 3; left = 2; removal = 1; holders = 2 ∷ []; prices = replicate 4 5 }
      ∷ record { life = 4; left = 4; removal = 3; holders = holders; prices = replicate 4 7 }
      ∷ [];
}

walk_17 : answer_of (hidden []) 17 ≡ optimum 17 39 45 printed
unfolding answer_of limited ask_from bound_of stop_cost undecided_fees blocks held_from accessible holding comes_out rounds holds_one listed table select sum_at offers least_of_lem choice_of within clock running
walk_17 = refl

walk_15 : answer_of (hidden []) 15 ≡ cut 15 39 45 printed
unfolding answer_of limited ask_from bound_of stop_cost undecided_fees blocks held_from accessible holding comes_out rounds holds_one listed table select sum_at offers least_of_lem choice_of within clock running
walk_15 = refl

walk_11 : answer_of (hidden []) 11 ≡ cut 11 39 52 twice
unfolding answer_of limited ask_from bound_of stop_cost undecided_fees blocks held_from accessible holding comes_out rounds holds_one listed table select sum_at offers least_of_lem choice_of within clock running
walk_11 = refl

walk_10 : answer_of (hidden []) 10 ≡ cut_none 10 39
unfolding answer_of limited ask_from bound_of stop_cost undecided_fees blocks held_from accessible holding comes_out rounds holds_one listed table select sum_at offers least_of_lem choice_of within clock running
walk_10 = refl

-- in a circle the two come out together, and both removals are decided
circle : answer_of (hidden (1 ∷ [])) 100 ≡ optimum 23 37 45 printed
unfolding answer_of limited ask_from bound_of stop_cost undecided_fees blocks held_from accessible holding comes_out rounds holds_one listed table select sum_at offers least_of_lem choice_of within clock running
circle = refl

-- the decisions of the printed plan: yes and removed, no, yes and removed, no
decided : decisions_of (hidden []) printed ≡ true ∷ true ∷ false ∷ true ∷ true ∷ false ∷ []
unfolding decisions_of concat holding out_by comes_out rounds holds_one listed table select
decided = refl

-- no plan costs less than 45
least_45 : (other : Plan) → KeepsLives (hidden []) other → 45 ≤ cost_of_lem (hidden []) other
least_45 other k = (subst (Promise (hidden []) 17) walk_17 (promise (hidden []) 17)).plan_for_lem.least other k tt

judge_45 : judged_of (hidden []) 45 printed ≡ accepts 45
unfolding judged_of verdict_from first_late out_by comes_out rounds holds_one listed table sum_at sum select within due_of_lem last_within_lem clock running
judge_45 = refl

-- the cost without removals is not the cost
judge_37 : judged_of (hidden []) 37 printed ≡ wrong_cost 45
unfolding judged_of verdict_from first_late out_by comes_out rounds holds_one listed table sum_at sum select within due_of_lem last_within_lem clock running
judge_37 = refl

-- E6 refuses this job: "E6's count refuses jobs with a holder". A walk that drops a node only without a bound has 57 nodes, and by stops alone they would be 17
refused : (longest (hidden []) ≡ 57) × (open_count (hidden []) ≡ 17)
unfolding open_count each_kept kept count_from each_reaches open_nodes ask_from bound_of stop_cost undecided_fees blocks held_from accessible holding comes_out rounds holds_one listed table select sum_at offers least_of_lem within clock running
refused = (refl, refl)
