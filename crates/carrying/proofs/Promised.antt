-- The call's answer keeps its promise on every job text, log and room (`promised`). By what each text reads as, and then by the judgement on what was done.
use Prim.Native.Nat.{ℕ, ◌≤◌, ◌<◌}
use mathlib.Core.Path.{◌≡◌, refl, sym, ap, ◌∙◌, subst}
use mathlib.Core.List.{List, []}
use native.Mathlib.Omega.{arith}
use Rattle.lines.specs.Parser.{Outcome, accepted, refused}
use Rattle.lines.proofs.Outcomes.{one_value, not_both}
use Rattle.model.specs.Model.{Job, cost_of_lem}
use Rattle.model.specs.Verdict.{Judgement, accepts, unkept, wrong_cost}
use Rattle.job_grammar.specs.Grammar.{JobText, meaning, read_job_text}
use Rattle.job_grammar.specs.Rendering.{job_text_lem}
use Rattle.job_grammar.proofs.Accepted.{valid_text}
use Rattle.job_grammar.proofs.Numbered as job
use Rattle.plan_grammar.proofs.Numbered as plan
use Rattle.answers.specs.Said.{plainly, lent}
use Rattle.answers.proofs.Replies.{refuses, with_room}
use Rattle.judging.specs.Judge.{cost_lines, unkept_lines}
use Rattle.carry.specs.Carry.{Log, AllLast, Accepts, carried}
use Rattle.carry.specs.Answer.{carry_number, carry_answered}
use Rattle.carry.specs.Promise.{LowestUsedUp, CarryValues, LogPromise}
use Rattle.carry.proofs.Answers.{log_promise}
use Rattle.log_grammar.specs.Grammar.{LogText, log_of, read_log}
use Rattle.job_grammar.specs.Reading.{meant_job}
use Rattle.carry_texts.specs.Carried.{carried_text}
use Rattle.log_grammar.proofs.Logs.{log_tells}
use Rattle.log_grammar.proofs.Numbered as logs
use Rattle.carrying.specs.Carry.{said_after, judged_done, on_log, on_job, carry_said, carry_room}
use Rattle.carrying.specs.Promise.{LogReading, job_in, done_in, CarriedOn, CarryPromise}
use Rattle.carrying.proofs.Going.{carried_on}

module _ (text log : List ℕ) (room : ℕ) where
  -- ---- no room

  short : room < carry_room → CarryPromise text log room (plainly 8 [])
  short h = record {
    says_8 = (λ e. h, λ e. refl);
    says_0 = (λ e. absurd (omega arith), λ r. absurd (omega (arith, r.0)));
    says_10 = (λ e. absurd (omega arith), λ r. absurd (omega (arith, r.0)));
    says_11 = (λ e. absurd (omega arith), λ r. absurd (omega (arith, r.0)));
    writes_0 = λ r e. absurd (omega arith);
    goes_on = λ r e. absurd (omega arith);
    writes_10 = λ r e. absurd (omega arith);
    writes_11 = λ r e. absurd (omega arith);
    job_fault = λ e. absurd (omega arith);
    log_fault = λ e. absurd (omega arith);
  }

  -- ---- a text's fault

  -- the log reads the same against any job that the job text reads as
  other_log : {t u : JobText} → read_job_text text ≡ accepted t → read_job_text text ≡ accepted u → read_log (meant_job t) log ≡ read_log (meant_job u) log
  other_log e f = ap (λ (x : JobText). read_log (meant_job x) log) (one_value f e)

  refused_job : carry_room ≤ room → (n l : ℕ) → read_job_text text ≡ refused n l → CarryPromise text log room (on_job text log (refused n l))
  refused_job h n l e = record {
    says_8 = (λ f. absurd (job.fault_else n 8 k (omega arith) (omega arith) f), λ f. absurd (omega arith));
    says_0 = (λ f. absurd (omega (arith, job.fault_some n k)), λ r. no r.1.0);
    says_10 = (λ f. absurd (job.fault_else n 10 k (omega arith) (omega arith) f), λ r. no r.1.0);
    says_11 = (λ f. absurd (job.fault_else n 11 k (omega arith) (omega arith) f), λ r. no r.1.0);
    writes_0 = λ r f. no r;
    goes_on = λ r f. no r;
    writes_10 = λ r f. no r;
    writes_11 = λ r f. no r;
    job_fault = λ m i j f. refuses 1 text e f;
    log_fault = λ m t f. not_both f e;
  }
    where
      k : job.JobFault n
      k = (job.fault text n l (ap meaning e)).0

      no : {X : Type 0} → LogReading text log → X
      no r = not_both r.job_read e

  refused-log : carry_room ≤ room → (t : JobText) → read_job_text text ≡ accepted t → (n l : ℕ) → read_log (meant_job t) log ≡ refused n l → CarryPromise text log room (on_log log t (refused n l))
  refused-log h t et n l e = record {
    says_8 = (λ f. absurd (plan.fault_else n 8 k (omega arith) (omega arith) f), λ f. absurd (omega arith));
    says_0 = (λ f. absurd (omega (arith, plan.fault_some n k)), λ r. no r.1.0);
    says_10 = (λ f. absurd (plan.fault_else n 10 k (omega arith) (omega arith) f), λ r. no r.1.0);
    says_11 = (λ f. absurd (plan.fault_else n 11 k (omega arith) (omega arith) f), λ r. no r.1.0);
    writes_0 = λ r f. no r;
    goes_on = λ r f. no r;
    writes_10 = λ r f. no r;
    writes_11 = λ r f. no r;
    job_fault = λ m i j f. not_both et f;
    log_fault = λ m u f i j q. refuses 2 log e (other_log et f ∙ q);
  }
    where
      k : plan.PlanFault n
      k = (logs.log_fault (meant_job t) log n l e).0

      no : {X : Type 0} → LogReading text log → X
      no r = not_both r.log_read (sym (other_log et r.job_read) ∙ e)

  -- ---- two texts that read

  module _ (h : carry_room ≤ room) (t : JobText) (et : read_job_text text ≡ accepted t) (said : LogText) (ed : read_log (meant_job t) log ≡ accepted said) where
    abbrev over : Job
    over = meant_job t

    abbrev done : Log
    done = log_of over said

    abbrev here : LogReading text log
    here = record { text = t; said = said; job_read = et; log_read = ed }

    -- any reading is this one
    text_is : (r : LogReading text log) → r.text ≡ t
    text_is r = one_value et r.job_read

    said_is : (r : LogReading text log) → r.said ≡ said
    said_is r = one_value ed (other_log et r.job_read ∙ r.log_read)

    -- what holds of a reading holds of this one, and back
    moved : (P : JobText → Log → Type 0) (r : LogReading text log) → P r.text (done_in r) → P t done
    moved P r p = subst (λ (x : JobText). P x (log_of (meant_job x) said)) (text_is r) (subst (λ (y : LogText). P r.text (log_of (job_in r) y)) (said_is r) p)

    moved_back : (P : JobText → Log → Type 0) (r : LogReading text log) → P t done → P r.text (done_in r)
    moved_back P r p = subst (λ (y : LogText). P r.text (log_of (job_in r) y)) (sym (said_is r)) (subst (λ (x : JobText). P x (log_of (meant_job x) said)) (sym (text_is r)) p)

    abbrev accepting : JobText → Log → Type 0
    accepting x y = Accepts (meant_job x) y

    abbrev lasting : JobText → Log → Type 0
    lasting x y = AllLast (meant_job x) y

    abbrev stating : JobText → Log → Type 0
    stating x y = y.cost ≡ cost_of_lem (meant_job x) y.plan

    -- what the model promises, and under which number it is said
    abbrev Kept : Judgement → Type 0
    Kept j = LogPromise over done (carry_answered (carried over done) j)

    number : (j : Judgement) → (said_after t done j).result ≡ carry_number (carry_answered (carried over done) j)
    number (accepts c) = refl
    number (unkept p d) = refl
    number (wrong_cost c) = refl

    writes_0 : (j : Judgement) → (said_after t done j).result ≡ 0 → (said_after t done j).bytes ≡ job_text_lem (carried_text t done)
    writes_0 (accepts c) e = refl
    writes_0 (unkept p d) e = absurd (omega arith)
    writes_0 (wrong_cost c) e = absurd (omega arith)

    writes_10 : (j : Judgement) → CarryValues over done (carry_answered (carried over done) j) → (said_after t done j).result ≡ 10
        → (part due : ℕ) × LowestUsedUp over done part due × ((said_after t done j).bytes ≡ unkept_lines part due)
    writes_10 (accepts c) v e = absurd (omega arith)
    writes_10 (unkept p d) v e = (p, d, v, refl)
    writes_10 (wrong_cost c) v e = absurd (omega arith)

    writes_11 : (j : Judgement) → CarryValues over done (carry_answered (carried over done) j) → (said_after t done j).result ≡ 11 → (said_after t done j).bytes ≡ cost_lines 11 (cost_of_lem over done.plan)
    writes_11 (accepts c) v e = absurd (omega arith)
    writes_11 (unkept p d) v e = absurd (omega arith)
    writes_11 (wrong_cost c) v e = ap (cost_lines 11) v

    not_8 : (j : Judgement) → (said_after t done j).result ≡ 8 → ⊥
    not_8 (accepts c) e = omega arith
    not_8 (unkept p d) e = omega arith
    not_8 (wrong_cost c) e = omega arith

    read : (j : Judgement) → Kept j → CarryPromise text log room (said_after t done j)
    read j p = record {
      says_8 = (λ e. absurd (not_8 j e), λ e. absurd (omega arith));
      says_0 = (λ e. (h, (here, p.says_0.0 (sym (number j) ∙ e))), λ r. number j ∙ p.says_0.1 (moved accepting r.1.0 r.1.1));
      says_10 = (
        λ e. (h, (here, p.says_10.0 (sym (number j) ∙ e))),
        λ r. number j ∙ p.says_10.1 (λ l. r.1.1 (moved_back lasting r.1.0 l)),
      );
      says_11 = (
        λ e. (h, (here, p.says_11.0 (sym (number j) ∙ e))),
        λ r. number j ∙ p.says_11.1 (moved lasting r.1.0 r.1.1.0, λ c. r.1.1.1 (moved_back stating r.1.0 c)),
      );
      writes_0 = λ r e. moved_back (λ x y. (said_after t done j).bytes ≡ job_text_lem (carried_text x y)) r (writes_0 j e);
      goes_on = λ r e.
          moved_back (λ x y. CarriedOn x y (said_after t done j).bytes) r
          (subst (CarriedOn t done) (sym (writes_0 j e)) (carried_on text t et done (log_tells over (valid_text text t et).means.job log said ed).logged (p.says_0.0 (sym (number j) ∙ e))));
      writes_10 = λ r e. moved_back (λ x y. (part due : ℕ) × LowestUsedUp (meant_job x) y part due × ((said_after t done j).bytes ≡ unkept_lines part due)) r (writes_10 j p.values e);
      writes_11 = λ r e. moved_back (λ x y. (said_after t done j).bytes ≡ cost_lines 11 (cost_of_lem (meant_job x) y.plan)) r (writes_11 j p.values e);
      job_fault = λ m n l e. not_both et e;
      log_fault = λ m u f n l e. not_both ed (other_log et f ∙ e);
    }

    judged : Kept (judged_done t done)
    judged = log_promise over done (log_tells over (valid_text text t et).means.job log said ed).logged

  -- ---- all together

  on_log_lem : carry_room ≤ room → (t : JobText) → read_job_text text ≡ accepted t → (x : Outcome LogText) → read_log (meant_job t) log ≡ x → CarryPromise text log room (on_log log t x)
  on_log_lem h t et (accepted said) ed = read h t et said ed (judged_done t (log_of (meant_job t) said)) (judged h t et said ed)
  on_log_lem h t et (refused n l) e = refused-log h t et n l e

  on_job_lem : carry_room ≤ room → (x : Outcome JobText) → read_job_text text ≡ x → CarryPromise text log room (on_job text log x)
  on_job_lem h (accepted t) e = on_log_lem h t e (read_log (meant_job t) log) refl
  on_job_lem h (refused n l) e = refused_job h n l e

  pub promised : CarryPromise text log room (lent carry_room room (carry_said text log))
  unfolding carry_said
  promised = with_room (CarryPromise text log room) carry_room room (carry_said text log) short (λ h. on_job_lem h (read_job_text text) refl)
