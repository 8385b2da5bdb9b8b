-- Halls computed from the definitions: 01's job (C1) alone, twice, and beside a line of one part that can stop at 3, cheaply, or at 4; and a hall with parts that hold each other.
use mathlib.Core.Path.{◌≡◌, refl}
use mathlib.Core.Bool.{true, false}
use mathlib.Core.List.{[], ◌∷◌, map}
use Prim.Native.Nat.{ℕ}
use native.Mathlib.Omega.{arith}
use lib.ListN.{replicate}
use Rattle.branch.specs.Search.{limited}
use Rattle.branch.specs.Questions.{ask_from}
use Rattle.branch.specs.Planning.{no_plan_lem2, cut_none, cut, optimum}
use Rattle.model.specs.Model.{Job, Plan, listed, running, clock, within, table, holds_one, rounds, comes_out, holding, out_by, select, sum_at, sum}
use Rattle.model.specs.Decisions.{held_from, accessible, concat}
use Rattle.model.specs.LowerBound.{least_of_lem, choice_of, offers, blocks, stop_cost, undecided_fees, bound_of}
use Rattle.model.specs.Windows.{at_step}
use Rattle.hall_model.specs.Hall.{Hall, Proper, hall_cost}
use Rattle.hall_model.specs.Limits.{Fits}
use Rattle.hall_model.specs.Agenda.{hear_then, removals, lines_asked, steps_asked, open_steps, lines_from, lines_of, name_for}
use Rattle.hall_model.specs.Decisions.{hall_decisions}
use Rattle.hall_model.specs.LowerBound.{hall_bound}
use Rattle.hall_model.specs.Promise.{hall_answer, HallAnswerPromise}
use Rattle.model.proofs.Worked.{job_with, printed, twice}
use Rattle.hall_model.proofs.Promised.{promise}

-- 01's job
abbrev first : Job
first = job_with 10 2

-- ---- 01's job as a hall of one line: a call is asked for before each stop, so there are more nodes than the planner's 11

abbrev alone : ℕ → Hall
alone call = record { call = call; jobs = first ∷ [] }

-- the planner's plan and cost
alone_free : hall_answer (alone 0) 17 ≡ optimum 17 37 37 (printed ∷ [])
unfolding hall_answer limited ask_from hall_bound hear_then steps_asked lines_asked removals lines_from open_steps bound_of stop_cost undecided_fees blocks held_from accessible holding comes_out rounds holds_one listed table select sum_at offers least_of_lem choice_of within clock running
alone_free = refl

-- 37, and two calls; the floor has none
alone_7 : hall_answer (alone 7) 17 ≡ optimum 17 37 51 (printed ∷ [])
unfolding hall_answer limited ask_from hall_bound hear_then steps_asked lines_asked removals lines_from open_steps bound_of stop_cost undecided_fees blocks held_from accessible holding comes_out rounds holds_one listed table select sum_at offers least_of_lem choice_of within clock running
alone_7 = refl

-- ---- two equal lines: the calls are shared

abbrev twins : ℕ → Hall
twins call = record { call = call; jobs = first ∷ first ∷ [] }

twins_free : hall_answer (twins 0) 31 ≡ optimum 31 74 74 (printed ∷ printed ∷ [])
unfolding hall_answer limited ask_from hall_bound hear_then steps_asked lines_asked removals lines_from open_steps bound_of stop_cost undecided_fees blocks held_from accessible holding comes_out rounds holds_one listed table select sum_at offers least_of_lem choice_of within clock running
twins_free = refl

twins_7 : hall_answer (twins 7) 29 ≡ optimum 29 74 88 (printed ∷ printed ∷ [])
unfolding hall_answer limited ask_from hall_bound hear_then steps_asked lines_asked removals lines_from open_steps bound_of stop_cost undecided_fees blocks held_from accessible holding comes_out rounds holds_one listed table select sum_at offers least_of_lem choice_of within clock running
twins_7 = refl

-- ---- two lines: at no price each line goes its own way; a call at 6 brings the second line's stop to step 4, where the first line stops too

-- with this first life
abbrev second : ℕ → Job
second left = record {
  horizon = 6;
  idles = [];
  openings = map (λ (step : ℕ). record { step = step; fee = 10 }) (3 ∷ 4 ∷ []);
  parts = record { life = 4; left = left; removal = 0; holders = []; prices = 3 ∷ 5 ∷ [] } ∷ [];
}

abbrev hall_with : ℕ → ℕ → Hall
hall_with call left = record { call = call; jobs = first ∷ second left ∷ [] }

-- the second line at 3
abbrev at_3 : Plan
at_3 = record { stops = true ∷ false ∷ []; changes = (true ∷ false ∷ []) ∷ [] }

-- or at 4
abbrev at_4 : Plan
at_4 = record { stops = false ∷ true ∷ []; changes = (false ∷ true ∷ []) ∷ [] }

-- 37 + 13
free : hall_answer (hall_with 0 4) 33 ≡ optimum 33 50 50 (printed ∷ at_3 ∷ [])
unfolding hall_answer limited ask_from hall_bound hear_then steps_asked lines_asked removals lines_from open_steps bound_of stop_cost undecided_fees blocks held_from accessible holding comes_out rounds holds_one listed table select sum_at offers least_of_lem choice_of within clock running
free = refl

-- 37 + 15, and two calls
walk_27 : hall_answer (hall_with 6 4) 27 ≡ optimum 27 50 64 (printed ∷ at_4 ∷ [])
unfolding hall_answer limited ask_from hall_bound hear_then steps_asked lines_asked removals lines_from open_steps bound_of stop_cost undecided_fees blocks held_from accessible holding comes_out rounds holds_one listed table select sum_at offers least_of_lem choice_of within clock running
walk_27 = refl

-- one node fewer: the same, but 7
walk_26 : hall_answer (hall_with 6 4) 26 ≡ cut 26 50 64 (printed ∷ at_4 ∷ [])
unfolding hall_answer limited ask_from hall_bound hear_then steps_asked lines_asked removals lines_from open_steps bound_of stop_cost undecided_fees blocks held_from accessible holding comes_out rounds holds_one listed table select sum_at offers least_of_lem choice_of within clock running
walk_26 = refl

-- the best so far
walk_18 : hall_answer (hall_with 6 4) 18 ≡ cut 18 50 77 (twice ∷ at_4 ∷ [])
unfolding hall_answer limited ask_from hall_bound hear_then steps_asked lines_asked removals lines_from open_steps bound_of stop_cost undecided_fees blocks held_from accessible holding comes_out rounds holds_one listed table select sum_at offers least_of_lem choice_of within clock running
walk_18 = refl

-- none so far
walk_14 : hall_answer (hall_with 6 4) 14 ≡ cut_none 14 50
unfolding hall_answer limited ask_from hall_bound hear_then steps_asked lines_asked removals lines_from open_steps bound_of stop_cost undecided_fees blocks held_from accessible holding comes_out rounds holds_one listed table select sum_at offers least_of_lem choice_of within clock running
walk_14 = refl

-- the second line has no plan
left_2 : hall_answer (hall_with 6 2) 27 ≡ no_plan_lem2
unfolding hall_answer limited ask_from hall_bound hear_then steps_asked lines_asked removals lines_from open_steps bound_of stop_cost undecided_fees blocks held_from accessible holding comes_out rounds holds_one listed table select sum_at offers least_of_lem choice_of within clock running
left_2 = refl

-- with the second line at 3 there are three calls
three_calls : hall_cost (hall_with 6 4) (printed ∷ at_3 ∷ []) ≡ 68
unfolding at_step out_by table comes_out rounds holds_one listed sum_at sum
three_calls = refl

-- a call at 2 and a stop of line 1; no call at 3; a call at 4 and a stop of each; no call at 5
decides : hall_decisions (hall_with 6 4) (printed ∷ at_4 ∷ []) ≡ true ∷ true ∷ false ∷ true ∷ true ∷ true ∷ false ∷ []
unfolding hall_decisions concat open_steps at_step out_by table comes_out rounds holds_one holding listed select
decides = refl

-- after the call at 4 both lines are undecided there: 1 has said yes at 2 and no at 3, 2 has said no at 3
names : map (λ ln. name_for (hall_with 6 4) ln (true ∷ true ∷ false ∷ true ∷ [])) (lines_of (hall_with 6 4)) ≡ (true ∷ false ∷ []) ∷ (false ∷ []) ∷ []
unfolding hear_then steps_asked lines_asked removals lines_from open_steps listed select holding table holds_one
names = refl

-- the lines are alike and their openings rise
proper : (call left : ℕ) → Proper (hall_with call left)
proper call left = (
  record { same_horizon = refl; same_idles = refl; rising = (omega arith, omega arith, (omega arith, omega arith, (omega arith, omega arith, (omega arith, omega arith, tt)))) },
  (record { same_horizon = refl; same_idles = refl; rising = (omega arith, omega arith, (omega arith, omega arith, tt)) }, tt),
)

-- and the text would take the hall
fits : Fits (hall_with 6 4)
fits = record { some = omega arith; few = omega arith; fair = omega arith; parts = omega arith; openings = omega arith }

-- so the promise holds of the answer
promised : HallAnswerPromise (hall_with 6 4) 27 (optimum 27 50 64 (printed ∷ at_4 ∷ []))
promised = rw walk_27 at (promise (hall_with 6 4) (proper 6 4) 27)

-- ---- the second line's parts hold each other: they come out together, and two removals are decided after each of its stops

abbrev circle : Hall
circle = record {
  call = 20;
  jobs = record {
    horizon = 6;
    idles = [];
    openings = record { step = 2; fee = 5 } ∷ [];
    parts = record { life = 5; left = 3; removal = 0; holders = []; prices = 9 ∷ [] } ∷ record { life = 6; left = 2; removal = 0; holders = []; prices = 9 ∷ [] } ∷ [];
  } ∷ record {
    horizon = 6;
    idles = [];
    openings = record { step = 2; fee = 0 } ∷ record { step = 6; fee = 0 } ∷ [];
    parts = record { life = 4; left = 2; removal = 1; holders = 2 ∷ []; prices = 1 ∷ 2 ∷ [] } ∷ record { life = 5; left = 5; removal = 9; holders = 1 ∷ []; prices = 2 ∷ 2 ∷ [] } ∷ [];
  } ∷ [];
}

-- both parts of the first line at 2
abbrev both_2 : Plan
both_2 = record { stops = true ∷ []; changes = (true ∷ []) ∷ (true ∷ []) ∷ [] }

-- part 1 of the second line at 2 and 6, part 2 at 2
abbrev at_both : Plan
at_both = record { stops = true ∷ true ∷ []; changes = (true ∷ true ∷ []) ∷ (true ∷ false ∷ []) ∷ [] }

circle_19 : hall_answer circle 19 ≡ optimum 19 28 88 (both_2 ∷ at_both ∷ [])
unfolding hall_answer limited ask_from hall_bound hear_then steps_asked lines_asked removals lines_from open_steps bound_of stop_cost undecided_fees blocks held_from accessible holding comes_out rounds holds_one listed table select sum_at offers least_of_lem choice_of within clock running
circle_19 = refl

-- at 2 a call, a stop of line 1, a stop of line 2 and its removals; at 6 a call, a stop of line 2 and its removals
circle_decides : hall_decisions circle (both_2 ∷ at_both ∷ []) ≡ replicate 9 true
unfolding hall_decisions concat open_steps at_step out_by table comes_out rounds holds_one holding listed select
circle_decides = refl
