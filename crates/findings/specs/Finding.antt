-- What the code finds: a planner's answer, with the plan, or a hall's plans, beside it.
use Rattle.std.specs.Prelude.{ℕ, Bool, true, false, Option, None, Some}
use Rattle.branch.specs.declared.Bound.{Bound}
use Rattle.branch.specs.declared.Bound.TheVariants.{Missing, Sum}
use Rattle.branch.specs.Planning.{Answer, no_plan_lem2, cut_none, cut, optimum, result_of}
use Rattle.answers.specs.Said.{Printable}
use Rattle.findings.specs.declared.Finding.{Finding}
use Rattle.findings.specs.declared.Finding.TheVariants.{NoPlan, Optimum, Cut, CutBare}

-- as the answer of branch's `Planning`, with this plan
abbrev pub found_answer : {Plan : Type 0} → Plan → Finding → Answer Plan
found_answer p NoPlan = no_plan_lem2
found_answer p (Optimum nodes floor cost) = optimum nodes floor cost p
found_answer p (Cut nodes floor cost) = cut nodes floor cost p
found_answer p (CutBare nodes floor) = cut_none nodes floor

-- its result number, which no plan changes
abbrev pub finding_number : Finding → ℕ
finding_number f = result_of (found_answer (tt {0}) f)

-- the numbers of an answer can be printed
abbrev pub PrintableAnswer : {Plan : Type 0} → Answer Plan → Type 0
PrintableAnswer no_plan_lem2 = Unit {0}
PrintableAnswer (cut_none nodes floor) = Printable nodes × Printable floor
PrintableAnswer (cut nodes floor cost p) = Printable nodes × Printable floor × Printable cost
PrintableAnswer (optimum nodes floor cost p) = Printable nodes × Printable floor × Printable cost

-- what is found of a walk with this floor, by the cost of the best plan, if one was found, and whether there are more nodes than were walked
abbrev pub found_by : ℕ → ℕ → Option ℕ → Bool → Finding
found_by nodes floor None false = NoPlan
found_by nodes floor None true = CutBare nodes floor
found_by nodes floor (Some cost) false = Optimum nodes floor cost
found_by nodes floor (Some cost) true = Cut nodes floor cost

-- by the first node's bound: it is the floor, and where it is missing there is no plan
abbrev pub found : ℕ → Bound → Option ℕ → Bool → Finding
found nodes Missing cost over = NoPlan
found nodes (Sum floor) cost over = found_by nodes floor cost over
