-- The hall planner's computed answer keeps its promise, for every hall whose lines are alike and whose openings rise.
use Prim.Native.Nat.{ℕ}
use Rattle.branch.specs.Planning.{Promise}
use Rattle.branch.proofs.Planned.{promise as problem-promise}
use Rattle.hall_model.specs.Hall.{Hall, Proper}
use Rattle.hall_model.specs.Promise.{hall_problem, hall_answer, HallAnswerPromise}
use Rattle.hall_model.proofs.Roots.{some_line}
use Rattle.hall_model.proofs.Laws.{laws}
use Rattle.hall_model.proofs.Free.{free_for}

module _ (hall : Hall) (proper : Proper hall) (limit : ℕ) where
  -- as of one job
  planned : Promise (hall_problem hall) limit (hall_answer hall limit)
  unfolding hall_answer
  planned = problem-promise (hall_problem hall) (laws hall proper) limit

  pub promise : HallAnswerPromise hall limit (hall_answer hall limit)
  promise =
      let some = some_line hall in
      let six = planned.says_6 in
      record {
        planned = planned;
        says_6 = ((λ e. some.0 (six.0 e)), λ r. six.1 (some.1 r));
        free = free_for hall limit (hall_answer hall limit) planned.plan_for_lem;
      }
