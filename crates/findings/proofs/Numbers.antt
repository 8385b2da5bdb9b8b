-- The number of a finding is that of the answer with any plan (`number_same`), and none is that of a short output (`not_8`).
use mathlib.Core.Path.{◌≡◌, refl}
use native.Mathlib.Omega.{arith}
use Rattle.branch.specs.Planning.{Answer, no_plan_lem2, cut_none, cut, optimum, result_of}
use Rattle.findings.specs.Finding.{found_answer, finding_number}
use Rattle.findings.specs.declared.Finding.{Finding}
use Rattle.findings.specs.declared.Finding.TheVariants.{NoPlan, Optimum, Cut, CutBare}

-- whatever the plan, the number is the same
pub number_same : {Plan : Type 0} (p : Plan) (f : Finding) → finding_number f ≡ result_of (found_answer p f)
number_same p NoPlan = refl
number_same p (Optimum n m c) = refl
number_same p (Cut n m c) = refl
number_same p (CutBare n m) = refl

-- no answer has the number of a short output
pub not_8 : {Plan : Type 0} (a : Answer Plan) → result_of a ≡ 8 → ⊥
not_8 no_plan_lem2 e = omega arith
not_8 (cut_none n f) e = omega arith
not_8 (cut n f c p) e = omega arith
not_8 (optimum n f c p) e = omega arith
