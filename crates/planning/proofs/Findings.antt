-- What is found of a search is the answer that the search says, with its plan (`found_said`), and an answer in its ranges can be printed (`fits`). By cases.
use Prim.Native.Nat.{ℕ, ◌≤◌}
use mathlib.Core.Path.{◌≡◌, refl}
use mathlib.Core.Bool.{Bool, true, false}
use native.Mathlib.Omega.{arith}
use Rattle.std.specs.Prelude.{Option, None, Some}
use Rattle.branch.specs.declared.Bound.{Bound}
use Rattle.branch.specs.declared.Bound.TheVariants.{Missing, Sum}
use Rattle.model.specs.Limits.{most_walk}
use Rattle.model.specs.Promise.{PlannerAnswer, no_plan_lem2, cut_none, cut, optimum}
use Rattle.search_state.specs.Answer.{answer_with}
use Rattle.job_search.proofs.Limits.{Ranged}
use Rattle.findings.specs.Finding.{found_answer, PrintableAnswer, found}

-- what is found, with a plan
pub found_said : {Plan : Type 0} (p : Plan) (nodes : ℕ) (floor : Bound) (cost : Option ℕ) (over : Bool) → found_answer p (found nodes floor cost over) ≡ answer_with p nodes floor over cost
found_said p nodes Missing cost over = refl
found_said p nodes (Sum f) None false = refl
found_said p nodes (Sum f) None true = refl
found_said p nodes (Sum f) (Some c) false = refl
found_said p nodes (Sum f) (Some c) true = refl

-- the numbers of an answer in the planner's ranges can be printed
pub fits : (limit : ℕ) → limit ≤ most_walk → (a : PlannerAnswer) → Ranged limit a → PrintableAnswer a
fits limit l no_plan_lem2 r = tt
fits limit l (cut_none n f) r = (omega (arith, r.0), omega (arith, r.1))
fits limit l (cut n f c p) r = (omega (arith, r.0), omega (arith, r.1), omega (arith, r.2))
fits limit l (optimum n f c p) r = (omega (arith, r.0), omega (arith, r.1), omega (arith, r.2))
