-- `answer_judgement`: the judgement's number is handed over, and its lines are put.
use Prim.Native.Nat.{ℕ}
use mathlib.Core.Path.{subst}
use native.Mathlib.Omega.{arith}
use borrow.Author.Rules.{rules}
use Rattle.verdict.specs.Views.{model_judgement}
use Rattle.line_writing.specs.Puts.{Room}
use Rattle.answers.specs.Said.{plainly, Replied}
use Rattle.judging.specs.Judge.{judge_lines}
use Rattle.judging.proofs.Lengths.{lines_short}
use Rattle.judging.proofs.answer_judgement.Goals as goal

pub reply-requires : goal.reply-requires
reply-requires c o start long = let room : Room o.now (judge_lines (model_judgement c.args.j)) = record { fits = omega (arith, start, long, lines_short (model_judgement c.args.j)) } in
    search (rules, room)

pub returns : goal.returns
returns c = let j = model_judgement c.args.j in
    subst (λ (n : ℕ). Replied c.args.need (plainly n (judge_lines j)) c.args.out.now c.reply.new.out c.reply.result) c.number_of.ensures
    (c.reply.ensures (judge_lines j) (omega (arith, lines_short j)) (λ o p start put. search rules))
