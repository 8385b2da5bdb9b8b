-- `put_judgement`: case by case, each with its number and its lines.
use mathlib.Core.Path.{◌≡◌, ap, subst, ◌∙◌}
use native.Mathlib.Omega.{arith}
use Rattle.lines.specs.Text.{bytes}
use Rattle.model.specs.Verdict.{number_of}
use Rattle.verdict.specs.declared.Judgement.{Judgement}
use Rattle.verdict.specs.Views.{model_judgement}
use Rattle.verdict.specs.Ranges.{RangedJudgement}
use Rattle.line_writing.specs.Puts.{Room}
use Rattle.judging.specs.Judge.{judge_lines, cost_lines, unkept_lines}
use Rattle.judging.proofs.put_judgement.Goals as goal
use Rattle.judging.proofs.put_judgement.Goals.{After-number_of-number}

-- the number, the ranges and the room for the lines of the judgement at hand
number : (c : After-number_of-number) (j : Judgement) → c.args.j ≡ j → c.number_of-number.result ≡ number_of (model_judgement j)
number c j e = c.number_of-number.ensures ∙ ap (λ (x : Judgement). number_of (model_judgement x)) e

ranges : (c : After-number_of-number) (j : Judgement) → c.args.j ≡ j → RangedJudgement (model_judgement j)
ranges c j e = subst (λ (x : Judgement). RangedJudgement (model_judgement x)) e c.requires.0

room : (c : After-number_of-number) (j : Judgement) → c.args.j ≡ j → Room c.args.out.now (judge_lines (model_judgement j))
room c j e = subst (λ (x : Judgement). Room c.args.out.now (judge_lines (model_judgement x))) e c.requires.1

pub put_two-requires : goal.put_two-requires
unfolding cost_lines bytes
put_two-requires c = let here = (goal.at.put_two-requires c).After-number_of-number in
    let h = ranges here _ c.in-Accepts.is in
    rw (number here _ c.in-Accepts.is) (omega (arith, h), room here _ c.in-Accepts.is)

pub put_three-requires : goal.put_three-requires
unfolding unkept_lines bytes
put_three-requires c = let here = (goal.at.put_three-requires c).After-number_of-number in
    let h = ranges here _ c.in-Unkept.is in
    rw (number here _ c.in-Unkept.is, c.from-part.ensures, c.from-due.ensures) (omega (arith, h), omega (arith, h), room here _ c.in-Unkept.is)

pub put_two-requires-in-WrongCost : goal.put_two-requires-in-WrongCost
unfolding cost_lines bytes
put_two-requires-in-WrongCost c = let here = (goal.at.put_two-requires-in-WrongCost c).After-number_of-number in
    let h = ranges here _ c.in-WrongCost.is in
    rw (number here _ c.in-WrongCost.is) (omega (arith, h), room here _ c.in-WrongCost.is)

pub returns-in-Accepts : goal.returns-in-Accepts
unfolding cost_lines bytes
returns-in-Accepts c = rw c.in-Accepts.is (rw (number (goal.at.returns-in-Accepts c).After-number_of-number _ c.in-Accepts.is) at c.put_two.ensures)

pub returns-in-Unkept : goal.returns-in-Unkept
unfolding unkept_lines bytes
returns-in-Unkept c = rw c.in-Unkept.is (rw (number (goal.at.returns-in-Unkept c).After-number_of-number _ c.in-Unkept.is, c.from-part.ensures, c.from-due.ensures) at c.put_three.ensures)

pub returns-in-WrongCost : goal.returns-in-WrongCost
unfolding cost_lines bytes
returns-in-WrongCost c = rw c.in-WrongCost.is (rw (number (goal.at.returns-in-WrongCost c).After-number_of-number _ c.in-WrongCost.is) at c.put_two-in-WrongCost.ensures)
