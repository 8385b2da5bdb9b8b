-- The answer with a plan is branch's answer, where the plan is that of the name that the walk found.
use Prim.Native.Nat.{ℕ}
use mathlib.Core.Path.{◌≡◌, refl, ap}
use mathlib.Core.Bool.{Bool, true, false}
use mathlib.Core.List.{List, []}
use Rattle.std.specs.Prelude.{Option, None, Some}
use Rattle.branch.specs.declared.Bound.{Bound}
use Rattle.branch.specs.declared.Bound.TheVariants.{Missing, Sum}
use Rattle.branch.specs.Planning.{cut, optimum, answered, answered_at}
use Rattle.search_state.specs.State.{found_as}
use Rattle.search_state.specs.Answer.{answer_with}

-- the answer with a plan p is branch's over plans by name, where p is the plan of this name whenever a cost was found
pub answer_named : {Plan : Type 0} (plan_at : List Bool → Plan) (name : List Bool) (p : Plan) (nodes : ℕ) (over : Bool) (cost : Option ℕ) → ((c : ℕ) → cost ≡ Some c → p ≡ plan_at name) → (floor : Bound)
    → answer_with p nodes floor over cost ≡ answered_at plan_at floor (record { count = nodes; over = over; incumbent = found_as name cost })
answer_named plan_at name p nodes over cost same Missing = refl
answer_named plan_at name p nodes over cost same (Sum floor) = by over cost same
  where
    by : (o : Bool) (t : Option ℕ) → ((c : ℕ) → t ≡ Some c → p ≡ plan_at name) → answered (λ (s : List Bool). p) floor nodes o (found_as [] t) ≡ answered plan_at floor nodes o (found_as name t)
    by true None f = refl
    by true (Some c) f = ap (cut nodes floor c) (f c refl)
    by false None f = refl
    by false (Some c) f = ap (optimum nodes floor c) (f c refl)
