-- What code finds of a log that was read against an accepted text (`means`): the judgement on it (`judged_is`, `judged_small`), what is said by that judgement (`said_is`), and the text that is left (`text_is`, `text_short`). By the openings that are past.
use Prim.Native.Nat.{ℕ, ◌≤◌, ◌<◌}
use mathlib.Core.Path.{◌≡◌, sym, ap, ap₂, subst, ◌∙◌}
use mathlib.Core.List.{List}
use native.Mathlib.Omega.{arith}
use lib.ListN.{length, get_or, take}
use lib.Seq.{get_or-take}
use Rattle.model.specs.Model.{Job, Plan}
use Rattle.model.specs.Limits.{last_position}
use Rattle.model.specs.Verdict.{Judgement, judged_of, part_at, changes_at}
use Rattle.model.proofs.Lists.{table_at}
use Rattle.jobs.specs.Views.{job_of, model_plan, plan_for}
use Rattle.jobs.specs.declared.accepted.Accepted.{Accepted}
use Rattle.jobs.proofs.Jobs.{part_count}
use Rattle.plan_costs.proofs.Dearest.{cost_most}
use Rattle.verdict.specs.Ranges.{RangedJudgement}
use Rattle.verdict.proofs.Limits.{judged_within}
use Rattle.job_grammar.specs.Grammar.{Given}
use Rattle.job_grammar.specs.Rendering.{job_text_lem}
use Rattle.job_grammar.specs.Valid.{ValidText}
use Rattle.job_grammar.proofs.Accepted.{valid_text}
use Rattle.job_grammar.proofs.Lengths.{text_fits}
use Rattle.job_text.specs.Views.{text_in}
use Rattle.job_text.specs.declared.accepted.AcceptedText.{AcceptedText}
use Rattle.carry.specs.Carry.{Log, passed, Logged, unused, natural}
use Rattle.carry.specs.Answer.{until}
use Rattle.carry.proofs.Kin.{cost_until}
use Rattle.log_grammar.specs.Grammar.{past_job_lem, log_of}
use Rattle.log_grammar.specs.Rendering.{plan_front}
use Rattle.log_grammar.proofs.Logs.{Tells, log_tells}
use Rattle.log_text.specs.Views.{said}
use Rattle.log_text.specs.declared.whole.LogText.{LogText}
use Rattle.log_lives.specs.Done.{judged_to, left_at, lefts_at_lem}
use Rattle.log_lives.proofs.Until.{judged_until, left_front}
use Rattle.job_grammar.specs.Reading.{meant_job}
use Rattle.carry_texts.specs.Carried.{carried_text}
use Rattle.carry_texts.proofs.Carried.{carried_valid}
use Rattle.carried_writing.specs.Left.{text_left}
use Rattle.carried_writing.proofs.Left.{carried_is}
use Rattle.carried_writing.proofs.Parts.{told_count}
use Rattle.carrying.specs.Texts.{BothRead}
use Rattle.carrying.specs.Carry.{said_after, carried_on_lem, carry_room}

-- the job that an accepted text means is the one that stands with it
pub means : (t : AcceptedText) → meant_job (text_in t) ≡ job_of t.job.job
means t = ap (λ (g : Given). g.job) t.means

module _ (t : AcceptedText) (d : LogText) (both : BothRead t d) where
  -- the job, and what was done
  abbrev job : Job
  job = job_of t.job.job

  abbrev pub done : Log
  done = log_of job (said t.job.job d)

  valid : ValidText (text_in t)
  valid = valid_text both.job (text_in t) both.job_read

  tells : Tells job both.log (said t.job.job d)
  tells = log_tells job t.job.valid both.log (said t.job.job d) both.log_read

  -- the step stands within the horizon, and has a position
  pub step_inside : d.step ≤ t.job.job.horizon
  step_inside = omega (arith, tells.logged.step_high)

  pub step_most : d.step ≤ last_position
  step_most = omega (arith, step_inside, t.job.valid.horizon_high)

  -- what is said by the judgement on what was done
  pub said_is : (j : Judgement) → j ≡ judged_of (until job d.step) done.cost done.plan → carried_on_lem (text_in t) (said t.job.job d) ≡ said_after (text_in t) done j
  said_is j e =
      ap (λ (k : Job). let log = log_of k (said t.job.job d) in said_after (text_in t) log (judged_of (until k log.step) log.cost log.plan)) (means t)
      ∙ ap (said_after (text_in t) done) (sym e)

  -- its values are within their ranges
  pub judged_small : (j : Judgement) → j ≡ judged_of (until job d.step) done.cost done.plan → RangedJudgement j
  judged_small j e =
      let v = t.job.valid in
      judged_within (until job d.step) v.few_parts (omega (arith, step_inside, v.horizon_high)) done.plan (omega (arith, cost_until job d.step done.plan, cost_most job v done.plan)) done.cost j e

  module _ (past : Accepted) (is : job_of past.job ≡ past_job_lem job d.step) (openings : past.job.opening_count ≡ passed job d.step) (parts : past.job.part_count ≡ t.job.job.part_count) where
    plan_is : plan_for past.job d.plan ≡ plan_front (passed job d.step) done.plan
    plan_is = ap₂ (λ (n m : ℕ). model_plan n m d.plan) openings parts ∙ sym tells.front

    -- the judgement on what was done, on the openings that are past
    pub judged_is : (j : Judgement) → j ≡ judged_to (job_of past.job) d.step d.cost (plan_for past.job d.plan) → j ≡ judged_of (until job d.step) done.cost done.plan
    judged_is j e = e ∙ ap₂ (λ (k : Job) (p : Plan). judged_to k d.step d.cost p) is plan_is ∙ sym (judged_until job done tells.logged)

    module _ (lefts : List ℕ) (are : take past.job.part_count lefts ≡ lefts_at_lem (job_of past.job) d.step (plan_for past.job d.plan)) where
      -- what is left of the part at a place
      left_is : (i : ℕ) → i < length (text_in t).parts → get_or lefts i 0 ≡ natural (unused (meant_job (text_in t)) d.step (part_at (meant_job (text_in t)) i) (changes_at done.plan i))
      left_is i h =
          let inside : i < past.job.part_count = omega (arith, h, told_count t, parts) in
          sym (get_or-take past.job.part_count lefts i 0 inside) ∙ ap (λ (xs : List ℕ). get_or xs i 0) are
          ∙ table_at (left_at (job_of past.job) d.step (plan_for past.job d.plan)) (length (job_of past.job).parts) i 0 (omega (arith, part_count past.job, inside))
          ∙ ap₂ (λ (k : Job) (p : Plan). left_at k d.step p i) is plan_is
          ∙ left_front job done tells.logged i (omega (arith, part_count t.job.job, inside, parts))
          ∙ ap (λ (k : Job). natural (unused k d.step (part_at k i) (changes_at done.plan i))) (sym (means t))

      -- the text that is left is the new job's
      pub text_is : text_left (text_in t) d.step lefts ≡ carried_text (text_in t) done
      text_is = carried_is (text_in t) done lefts left_is

      -- and not too long
      pub text_short : length (job_text_lem (text_left (text_in t) d.step lefts)) ≤ carry_room
      text_short = rw text_is (text_fits (carried_text (text_in t) done) (carried_valid (text_in t) done valid (subst (λ (k : Job). Logged k done) (sym (means t)) tells.logged)))
