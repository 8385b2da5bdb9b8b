-- 01's "One job entire" and the cases of its alterations that are no text's fault, computed from the definitions.
use mathlib.Core.Path.{◌≡◌, refl, subst}
use mathlib.Core.Bool.{true, false}
use mathlib.Core.List.{[], ◌∷◌}
use Prim.Native.Nat.{ℕ, ◌≤◌}
use lib.ListN.{replicate}
use Rattle.branch.specs.Search.{limited}
use Rattle.branch.specs.Questions.{ask_from}
use Rattle.branch.specs.Open.{open_nodes}
use Rattle.model.specs.Model.{Job, Plan, listed, running, clock, within, kept, last_within_lem, due_of_lem, table, holds_one, rounds, comes_out, holding, out_by, select, sum_at, sum, cost_of_lem, KeepsLives, HasPlan}
use Rattle.model.specs.Decisions.{held_from, accessible}
use Rattle.model.specs.LowerBound.{least_of_lem, choice_of, offers, blocks, stop_cost, undecided_fees, bound_of}
use Rattle.model.specs.Promise.{no_plan_lem2, cut_none, cut, optimum, answer_of, Promise}
use Rattle.longest_walk.specs.Longest.{longest}
use Rattle.longest_walk.specs.Count.{each_reaches, each_kept, count_from, open_count}
use Rattle.model.specs.Verdict.{accepts, unkept, wrong_cost, first_late, verdict_from, judged_of}
use Rattle.model.specs.Windows.{at_step}
use Rattle.published.specs.Published.{objective}
use Rattle.model.proofs.Promised.{promise}
use Rattle.model.proofs.Worked.{job_with, printed, twice}

walk_11 : answer_of (job_with 10 2) 11 ≡ optimum 11 37 37 printed
unfolding answer_of limited ask_from bound_of stop_cost undecided_fees blocks held_from accessible holding comes_out rounds holds_one listed table select sum_at offers least_of_lem choice_of within clock running
walk_11 = refl

walk_10 : answer_of (job_with 10 2) 10 ≡ cut 10 37 37 printed
unfolding answer_of limited ask_from bound_of stop_cost undecided_fees blocks held_from accessible holding comes_out rounds holds_one listed table select sum_at offers least_of_lem choice_of within clock running
walk_10 = refl

walk_8 : answer_of (job_with 10 2) 8 ≡ cut 8 37 44 twice
unfolding answer_of limited ask_from bound_of stop_cost undecided_fees blocks held_from accessible holding comes_out rounds holds_one listed table select sum_at offers least_of_lem choice_of within clock running
walk_8 = refl

walk_6 : answer_of (job_with 10 2) 6 ≡ cut_none 6 37
unfolding answer_of limited ask_from bound_of stop_cost undecided_fees blocks held_from accessible holding comes_out rounds holds_one listed table select sum_at offers least_of_lem choice_of within clock running
walk_6 = refl

walk_0 : answer_of (job_with 10 2) 0 ≡ cut_none 0 37
unfolding answer_of limited ask_from bound_of stop_cost undecided_fees blocks held_from accessible holding comes_out rounds holds_one listed table select sum_at offers least_of_lem choice_of within clock running
walk_0 = refl

left_1 : answer_of (job_with 10 1) 11 ≡ no_plan_lem2
unfolding answer_of limited ask_from bound_of stop_cost undecided_fees blocks held_from accessible holding comes_out rounds holds_one listed table select sum_at offers least_of_lem choice_of within clock running
left_1 = refl

fees_0 : answer_of (job_with 0 2) 11 ≡ optimum 11 17 17 printed
unfolding answer_of limited ask_from bound_of stop_cost undecided_fees blocks held_from accessible holding comes_out rounds holds_one listed table select sum_at offers least_of_lem choice_of within clock running
fees_0 = refl

-- one part, T = 6, no openings
abbrev bare : ℕ → Job
bare life = record { horizon = 6; idles = []; openings = []; parts = record { life = life; left = life; removal = 0; holders = []; prices = [] } ∷ [] }

bare_7 : answer_of (bare 7) 11 ≡ optimum 1 0 0 (record { stops = []; changes = [] ∷ [] })
unfolding answer_of limited ask_from bound_of stop_cost undecided_fees blocks held_from accessible holding comes_out rounds holds_one listed table select sum_at offers least_of_lem choice_of within clock running
bare_7 = refl

bare_6 : answer_of (bare 6) 11 ≡ no_plan_lem2
unfolding answer_of limited ask_from bound_of stop_cost undecided_fees blocks held_from accessible holding comes_out rounds holds_one listed table select sum_at offers least_of_lem choice_of within clock running
bare_6 = refl

-- the printed plan's true cost
printed_costs : cost_of_lem (job_with 10 2) printed ≡ 37
unfolding out_by comes_out rounds holds_one listed table sum_at sum
printed_costs = refl

-- and the published objective at it
printed-objective : objective (job_with 10 2) printed ≡ 37
unfolding objective sum at_step out_by comes_out rounds holds_one listed table
printed-objective = refl

-- what the promise says of it: there is a plan, none costs less than 37, and with `left=1` there is none
promised : Promise (job_with 10 2) 11 (optimum 11 37 37 printed)
promised = subst (Promise (job_with 10 2) 11) walk_11 (promise (job_with 10 2) 11)

has : HasPlan (job_with 10 2)
has = (promised.says_0.0 refl).0

least_37 : (other : Plan) → KeepsLives (job_with 10 2) other → 37 ≤ cost_of_lem (job_with 10 2) other
least_37 other k = promised.plan_for_lem.least other k tt

has_not : HasPlan (job_with 10 1) → ⊥
has_not = (subst (Promise (job_with 10 1) 11) left_1 (promise (job_with 10 1) 11)).says_6.0 refl

-- ---- E6. the count

-- E6.4. "For 01's job it is 17.", by walking and without
longest_17 : longest (job_with 10 2) ≡ 17
unfolding open_nodes ask_from bound_of stop_cost undecided_fees blocks held_from accessible holding comes_out rounds holds_one listed table select sum_at offers least_of_lem within clock running
longest_17 = refl

count_17 : open_count (job_with 10 2) ≡ 17
unfolding open_count each_kept kept count_from each_reaches within clock running listed
count_17 = refl

-- E6.6. "A job with no plan has result 0 and count 1."; one with a plan and no openings has 1 too
count_no_plan : open_count (job_with 10 1) ≡ 1
unfolding open_count each_kept kept within clock running listed
count_no_plan = refl

count_bare : open_count (bare 7) ≡ 1
unfolding open_count each_kept kept count_from within clock running listed
count_bare = refl

-- E6.3. "The count stops at 4000000000": 32 openings and a part that needs no change have 2³³ - 1 nodes, 31 of them have 2³² - 1, and 30 have 2³¹ - 1
abbrev wide : ℕ → Job
wide n = record { horizon = 40; idles = []; openings = replicate n (record { step = 1; fee = 0 }); parts = record { life = 41; left = 41; removal = 0; holders = []; prices = [] } ∷ [] }

count_30 : open_count (wide 30) ≡ 2147483647
unfolding open_count each_kept kept count_from each_reaches within clock running listed
count_30 = refl

count_31 : open_count (wide 31) ≡ 4000000000
unfolding open_count each_kept kept count_from each_reaches within clock running listed
count_31 = refl

-- ---- idle steps: the same job, with step 3 idle. Part 1's first life then ends with step 3, and a change at 3 is as good as one at 2

abbrev idle_job : Job
idle_job = record { horizon = 6; idles = 3 ∷ []; openings = (job_with 10 2).openings; parts = (job_with 10 2).parts }

-- stop=3 part=1, stop=5 part=1 part=2
abbrev rested : Plan
rested = record {
  stops = false ∷ true ∷ false ∷ true ∷ [];
  changes = (false ∷ true ∷ false ∷ true ∷ []) ∷ (false ∷ false ∷ false ∷ true ∷ []) ∷ [];
}

idle_3 : answer_of idle_job 100 ≡ optimum 9 37 37 rested
unfolding answer_of limited ask_from bound_of stop_cost undecided_fees blocks held_from accessible holding comes_out rounds holds_one listed table select sum_at offers least_of_lem choice_of within clock running
idle_3 = refl

-- ---- the judge

-- part 1 at 2, parts 1 and 2 at 3
abbrev early : Plan
early = record {
  stops = true ∷ true ∷ false ∷ false ∷ [];
  changes = (true ∷ true ∷ false ∷ false ∷ []) ∷ (false ∷ true ∷ false ∷ false ∷ []) ∷ [];
}

judge_early : (cost : ℕ) → judged_of (job_with 10 2) cost early ≡ unkept 1 6
unfolding judged_of verdict_from first_late out_by comes_out rounds holds_one listed table sum_at sum select within due_of_lem last_within_lem clock running
judge_early cost = refl

judge_printed : judged_of (job_with 10 2) 37 printed ≡ accepts 37
unfolding judged_of verdict_from first_late out_by comes_out rounds holds_one listed table sum_at sum select within due_of_lem last_within_lem clock running
judge_printed = refl

judge_36 : judged_of (job_with 10 2) 36 printed ≡ wrong_cost 37
unfolding judged_of verdict_from first_late out_by comes_out rounds holds_one listed table sum_at sum select within due_of_lem last_within_lem clock running
judge_36 = refl

-- with step 3 idle, the plan of doing nothing loses part 1 after step 3
abbrev still : Plan
still = record { stops = replicate 4 false; changes = replicate 4 false ∷ replicate 4 false ∷ [] }

judge_idle : (cost : ℕ) → judged_of idle_job cost still ≡ unkept 1 3
unfolding judged_of verdict_from first_late out_by comes_out rounds holds_one listed table sum_at sum select within due_of_lem last_within_lem clock running
judge_idle cost = refl

judge_rested : judged_of idle_job 37 rested ≡ accepts 37
unfolding judged_of verdict_from first_late out_by comes_out rounds holds_one listed table sum_at sum select within due_of_lem last_within_lem clock running
judge_rested = refl
