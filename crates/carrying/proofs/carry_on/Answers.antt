-- `carry_on`: the judgement is the model's on the job as far as the step; where it accepts, the text that is left is the new job's.
use mathlib.Core.Path.{◌≡◌, sym, ap, subst, ◌∙◌}
use mathlib.Core.Logic.{◌⊎◌, ⊎_elim}
use native.Mathlib.Omega.{arith}
use Prim.Native.Nat.{ℕ}
use Rattle.model.specs.Verdict.{judged_of}
use Rattle.jobs.specs.Views.{job_of}
use Rattle.job_grammar.specs.Grammar.{JobText}
use Rattle.job_grammar.specs.Rendering.{job_text_lem}
use Rattle.job_text.specs.Views.{text_in}
use Rattle.verdict.specs.declared.Judgement.{Judgement}
use Rattle.verdict.specs.declared.Judgement.TheVariants.{Unkept, WrongCost}
use Rattle.verdict.specs.Views.{model_judgement}
use Rattle.answers.specs.Said.{Said, plainly, Replied}
use Rattle.judging.specs.Judge.{judge_reply}
use Rattle.carry.specs.Carry.{Log}
use Rattle.carry.specs.Answer.{until}
use Rattle.carrying.specs.Carry.{said_after, carry_room}
use Rattle.carrying.proofs.Done.{done, step_inside, step_most, said_is, judged_small, judged_is, text_is, text_short}
use Rattle.carrying.proofs.carry_on.Goals as goal
use Rattle.carrying.proofs.carry_on.Goals.{After-judgement_to-judged}

-- the judgement that is found is the model's on what was done
judged : (c : After-judgement_to-judged) → let a = c.args in let job = job_of a.text.now.job.job in let log = done a.text.now a.done.now c.requires in
    model_judgement c.judgement_to-judged.result ≡ judged_of (until job a.done.now.step) log.cost log.plan
judged c = let past = c.job_to-past in
    judged_is c.args.text.now c.args.done.now c.requires past.result past.ensures.job past.ensures.openings past.ensures.parts _ c.judgement_to-judged.ensures

-- one that refuses is said as the judge says it
refused : (t : JobText) (log : Log) (j : Judgement) → ((part : ℕ) × (due : ℕ) × (j ≡ Unkept part due)) ⊎ ((cost : ℕ) × (j ≡ WrongCost cost)) → judge_reply (model_judgement j) ≡ said_after t log (model_judgement j)
refused t log j =
    ⊎_elim
    (λ w. ap (λ (x : Judgement). judge_reply (model_judgement x)) w.2 ∙ sym (ap (λ (x : Judgement). said_after t log (model_judgement x)) w.2))
    (λ w. ap (λ (x : Judgement). judge_reply (model_judgement x)) w.1 ∙ sym (ap (λ (x : Judgement). said_after t log (model_judgement x)) w.1))

pub judgement_to-judged-requires : goal.judgement_to-judged-requires
judgement_to-judged-requires c = step_most c.args.text.now c.args.done.now c.requires

pub lefts_at-lefts-requires : goal.lefts_at-lefts-requires
lefts_at-lefts-requires c = step_most c.args.text.now c.args.done.now c.requires

pub write-requires-clause-step_low : goal.write-requires-clause-step_low
write-requires-clause-step_low c = step_inside c.args.text.now c.args.done.now c.requires

pub write-requires-clause-short : goal.write-requires-clause-short
write-requires-clause-short c = let past = c.job_to-past in
    text_short c.args.text.now c.args.done.now c.requires past.result past.ensures.job past.ensures.openings past.ensures.parts c.lefts_at-lefts.result c.lefts_at-lefts.ensures

pub answer_judgement-requires : goal.answer_judgement-requires
answer_judgement-requires c =
    (judged_small c.args.text.now c.args.done.now c.requires _ (judged (goal.at.answer_judgement-requires c).After-judgement_to-judged), omega arith)

pub returns-in-Accepts : goal.returns-in-Accepts
returns-in-Accepts c = let t = c.args.text.now in
    let d = c.args.done.now in
    let past = c.job_to-past in
    let log = done t d c.requires in
    let text = text_is t d c.requires past.result past.ensures.job past.ensures.openings past.ensures.parts c.lefts_at-lefts.result c.lefts_at-lefts.ensures in
    let said = said_is t d c.requires _ (judged (goal.at.returns-in-Accepts c).After-judgement_to-judged) ∙ ap (λ (x : Judgement). said_after (text_in t) log (model_judgement x)) c.in-Accepts.is in
    subst (λ (s : Said). Replied carry_room s c.args.out.now c.write.new.out c.write.result) (ap (λ (u : JobText). plainly 0 (job_text_lem u)) text ∙ sym said) c.write.ensures

pub returns-in-Unkept : goal.returns-in-Unkept
returns-in-Unkept c = let t = c.args.text.now in
    let d = c.args.done.now in
    let log = done t d c.requires in
    let j = c.judgement_to-judged.result in
    let said = said_is t d c.requires _ (judged (goal.at.returns-in-Unkept c).After-judgement_to-judged) in
    subst (λ (s : Said). Replied carry_room s c.args.out.now c.answer_judgement.new.out c.answer_judgement.result) (refused (text_in t) log j c.in-Unkept.is ∙ sym said) c.answer_judgement.ensures
