-- The answer that the end of a walk says, read off what every search hands back, with the plan that the code holds beside it.
use Rattle.std.specs.Prelude.{ℕ, Bool, List, [], Option}
use Rattle.branch.specs.declared.Bound.{Bound}
use Rattle.branch.specs.Planning.{Answer, answered_at}
use Rattle.search_state.specs.State.{found_as}

-- by the nodes walked, the floor, whether there are more nodes, and the cost of the plan, if one was found: branch's answer, with this plan whatever its name
abbrev pub answer_with : {Plan : Type 0} → Plan → ℕ → Bound → Bool → Option ℕ → Answer Plan
answer_with p nodes floor over cost = answered_at (λ (name : List Bool). p) floor (record { count = nodes; over = over; incumbent = found_as [] cost })
