-- Logs of 01's "One job entire", computed from the definitions.
use mathlib.Core.Path.{◌≡◌, refl}
use mathlib.Core.Bool.{Bool, true, false}
use mathlib.Core.List.{List, [], ◌∷◌, map}
use Prim.Native.Nat.{ℕ}
use lib.ListN.{replicate}
use Rattle.branch.specs.Search.{limited}
use Rattle.branch.specs.Questions.{ask_from}
use Rattle.model.specs.Model.{Job, Plan, running, clock, within, last_within_lem, due_of_lem, listed, table, holds_one, rounds, comes_out, holding, out_by, select, sum_at, sum}
use Rattle.model.specs.Decisions.{held_from, accessible}
use Rattle.model.specs.LowerBound.{least_of_lem, choice_of, offers, blocks, stop_cost, undecided_fees, bound_of}
use Rattle.model.specs.Promise.{no_plan_lem2, optimum, answer_of}
use Rattle.model.specs.Verdict.{unkept, wrong_cost, first_late, verdict_from, judged_of}
use Rattle.carry.specs.Carry.{Log, count_to, carried_parts}
use Rattle.carry.specs.Answer.{goes_on, refused, answer_to}
use Rattle.carry.specs.Joined.{joined_log}

-- 01's job with these idle steps, openings at these steps, the two parts' lefts, and their removals and holders
abbrev job_of : ℕ → List ℕ → List ℕ → ℕ → ℕ → ℕ → ℕ → ℕ → List ℕ → Job
job_of horizon idles steps n left₁ left₂ removal₁ removal₂ holders = record {
  horizon = horizon;
  idles = idles;
  openings = map (λ (step : ℕ). record { step = step; fee = 10 }) steps;
  parts =
      record { life = 3; left = left₁; removal = removal₁; holders = holders; prices = replicate n 5 }
      ∷ record { life = 4; left = left₂; removal = removal₂; holders = []; prices = replicate n 7 }
      ∷ [];
}

abbrev worked : List ℕ → Job
worked idles = job_of 6 idles (2 ∷ 3 ∷ 4 ∷ 5 ∷ []) 4 2 4 0 0 []

-- the new job after step 2
abbrev after2 : List ℕ → ℕ → Job
after2 idles left₁ = job_of 4 idles (1 ∷ 2 ∷ 3 ∷ []) 3 left₁ 2 0 0 []

-- nothing was done
abbrev nothing : ℕ → Log
nothing step = record {
  step = step;
  cost = 0;
  plan = record { stops = replicate 4 false; changes = replicate 4 false ∷ replicate 4 false ∷ [] };
}

-- step=2 cost=15 stop=2 part=1: the start of the printed plan; and with another cost
abbrev first : ℕ → Log
first cost = record {
  step = 2;
  cost = cost;
  plan = record { stops = true ∷ false ∷ false ∷ false ∷ []; changes = (true ∷ false ∷ false ∷ false ∷ []) ∷ replicate 4 false ∷ [] };
}

-- in the new job: step=2 cost=22 stop=2 part=1 part=2
abbrev second : Log
second = record {
  step = 2;
  cost = 22;
  plan = record { stops = false ∷ true ∷ false ∷ []; changes = (false ∷ true ∷ false ∷ []) ∷ (false ∷ true ∷ false ∷ []) ∷ [] };
}

-- step=4 cost=37 stop=2 part=1 stop=4 part=1 part=2
abbrev both : Log
both = record {
  step = 4;
  cost = 37;
  plan = record { stops = true ∷ false ∷ true ∷ false ∷ []; changes = (true ∷ false ∷ true ∷ false ∷ []) ∷ (false ∷ false ∷ true ∷ false ∷ []) ∷ [] };
}

goes_on_2 : answer_to (worked []) (first 15) ≡ goes_on (after2 [] 3)
unfolding count_to carried_parts judged_of verdict_from first_late due_of_lem last_within_lem comes_out rounds holds_one listed out_by table select sum_at sum within clock running
goes_on_2 = refl

-- the printed plan cost 37, and 22 are left to pay: its stop at 4 is now at 2
remaining_22 : answer_of (after2 [] 3) 100 ≡ optimum 7 22 22 second.plan
unfolding answer_of limited ask_from bound_of stop_cost undecided_fees blocks held_from accessible holding comes_out rounds holds_one listed table select sum_at sum offers least_of_lem choice_of within clock running
remaining_22 = refl

-- the second log, and the two joined
goes_on_again : answer_to (after2 [] 3) second ≡ goes_on (job_of 2 [] (1 ∷ []) 1 3 4 0 0 [])
unfolding count_to carried_parts judged_of verdict_from first_late due_of_lem last_within_lem comes_out rounds holds_one listed out_by table select sum_at sum within clock running
goes_on_again = refl

joined_both : joined_log (worked []) (first 15) second ≡ both
unfolding count_to
joined_both = refl

goes_on_both : answer_to (worked []) both ≡ goes_on (job_of 2 [] (1 ∷ []) 1 3 4 0 0 [])
unfolding count_to carried_parts judged_of verdict_from first_late due_of_lem last_within_lem comes_out rounds holds_one listed out_by table select sum_at sum within clock running
goes_on_both = refl

-- 11
wrong_cost_lem : answer_to (worked []) (first 14) ≡ refused (wrong_cost 15)
unfolding count_to carried_parts judged_of verdict_from first_late due_of_lem last_within_lem comes_out rounds holds_one listed out_by table select sum_at sum within clock running
wrong_cost_lem = refl

-- ---- nothing left: part 1 may run to step 2

goes_on_worn : answer_to (worked []) (nothing 2) ≡ goes_on (after2 [] 0)
unfolding count_to carried_parts judged_of verdict_from first_late due_of_lem last_within_lem comes_out rounds holds_one listed out_by table select sum_at sum within clock running
goes_on_worn = refl

-- step 1 runs: no plan, and the judge of doing nothing says `due` 0
worn_no_plan : answer_of (after2 [] 0) 100 ≡ no_plan_lem2
unfolding answer_of limited ask_from bound_of stop_cost undecided_fees blocks held_from accessible holding comes_out rounds holds_one listed table select sum_at sum offers least_of_lem choice_of within clock running
worn_no_plan = refl

abbrev no_stops : Plan
no_stops = record { stops = replicate 3 false; changes = replicate 3 false ∷ replicate 3 false ∷ [] }

worn_due : judged_of (after2 [] 0) 0 no_stops ≡ unkept 1 0
unfolding judged_of verdict_from first_late due_of_lem last_within_lem comes_out rounds holds_one listed out_by table select sum_at sum within clock running
worn_due = refl

-- a step later it is too late: due 2
used_up : answer_to (worked []) (nothing 3) ≡ refused (unkept 1 2)
unfolding count_to carried_parts judged_of verdict_from first_late due_of_lem last_within_lem comes_out rounds holds_one listed out_by table select sum_at sum within clock running
used_up = refl

-- steps 3 and 4 are idle, so that it can still be changed there: the new job's idles 1 and 2, and due 2
goes_on_idle : answer_to (worked (3 ∷ 4 ∷ [])) (nothing 2) ≡ goes_on (after2 (1 ∷ 2 ∷ []) 0)
unfolding count_to carried_parts judged_of verdict_from first_late due_of_lem last_within_lem comes_out rounds holds_one listed out_by table select sum_at sum within clock running
goes_on_idle = refl

worn_idle : answer_of (after2 (1 ∷ 2 ∷ []) 0) 100 ≡ optimum 7 22 22 second.plan
unfolding answer_of limited ask_from bound_of stop_cost undecided_fees blocks held_from accessible holding comes_out rounds holds_one listed table select sum_at sum offers least_of_lem choice_of within clock running
worn_idle = refl

worn_idle_due : judged_of (after2 (1 ∷ 2 ∷ []) 0) 0 no_stops ≡ unkept 1 2
unfolding judged_of verdict_from first_late due_of_lem last_within_lem comes_out rounds holds_one listed out_by table select sum_at sum within clock running
worn_idle_due = refl

-- ---- part 1 behind part 2: the log's cost has the removals, 10 + 5 + 1 + 3

goes_on_hidden : answer_to (job_of 6 [] (2 ∷ 3 ∷ 4 ∷ 5 ∷ []) 4 2 4 1 3 (2 ∷ [])) (first 19) ≡ goes_on (job_of 4 [] (1 ∷ 2 ∷ 3 ∷ []) 3 3 2 1 3 (2 ∷ []))
unfolding count_to carried_parts judged_of verdict_from first_late due_of_lem last_within_lem comes_out rounds holds_one listed out_by table select sum_at sum within clock running
goes_on_hidden = refl

-- 45 in all, 26 left to pay
remaining_26 : answer_of (job_of 4 [] (1 ∷ 2 ∷ 3 ∷ []) 3 3 2 1 3 (2 ∷ [])) 100 ≡ optimum 9 23 26 second.plan
unfolding answer_of limited ask_from bound_of stop_cost undecided_fees blocks held_from accessible holding comes_out rounds holds_one listed table select sum_at sum offers least_of_lem choice_of within clock running
remaining_26 = refl

-- ---- one part, life and left 3, openings at 2 and 6: the gap from the change at 2 is too long, up to the change at 6 or up to step 6

abbrev gapped : Bool → Log
gapped again = record { step = 6; cost = 0; plan = record { stops = true ∷ again ∷ []; changes = (true ∷ again ∷ []) ∷ [] } }

abbrev sparse : Job
sparse = record {
  horizon = 8;
  idles = [];
  openings = record { step = 2; fee = 1 } ∷ record { step = 6; fee = 1 } ∷ [];
  parts = record { life = 3; left = 3; removal = 0; holders = []; prices = 1 ∷ 1 ∷ [] } ∷ [];
}

between_changes : answer_to sparse (gapped true) ≡ refused (unkept 1 5)
unfolding count_to carried_parts judged_of verdict_from first_late due_of_lem last_within_lem comes_out rounds holds_one listed out_by table select sum_at sum within clock running
between_changes = refl

by_step : answer_to sparse (gapped false) ≡ refused (unkept 1 5)
unfolding count_to carried_parts judged_of verdict_from first_late due_of_lem last_within_lem comes_out rounds holds_one listed out_by table select sum_at sum within clock running
by_step = refl
