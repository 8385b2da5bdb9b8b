-- The judge's answer keeps its promise on every pair of texts and every room (`promised`). By what each text reads as, and then by the judgement.
use Prim.Native.Nat.{ℕ, ◌≤◌, ◌<◌}
use mathlib.Core.Path.{◌≡◌, refl, sym, ap, ◌∙◌}
use mathlib.Core.List.{List, []}
use native.Mathlib.Omega.{arith}
use Rattle.lines.specs.Parser.{Outcome, accepted, refused}
use Rattle.lines.proofs.Outcomes.{not_both}
use Rattle.model.specs.Model.{KeepsLives, cost_of_lem}
use Rattle.model.specs.Verdict as verdict
use Rattle.model.specs.Verdict.{Judgement, accepts, unkept, wrong_cost, number_of, judged_of, AllKept}
use Rattle.model.proofs.Verdicts.{judge, lives_kept, kept_lives}
use Rattle.job_grammar.specs.Grammar.{Given, read_job_lem}
use Rattle.job_grammar.proofs.Numbered as job
use Rattle.job_grammar.proofs.Due.{text_due}
use Rattle.plan_grammar.specs.Grammar.{Stated, read_plan_lem}
use Rattle.plan_grammar.proofs.Numbered as plan
use Rattle.plan_grammar.proofs.Shapes.{shaped}
use Rattle.answers.specs.Said.{plainly, lent}
use Rattle.answers.proofs.Replies.{refuses, with_room}
use Rattle.judging.specs.Judge.{cost_lines, unkept_lines, judge_reply, on_plan, on_job, judge_said, judge_room}
use Rattle.judging.specs.Promise.{PlanReading, Overdue, JudgePromise}
use Rattle.judging.proofs.Readings.{other_plan, moved}

module _ (job_text_lem plan_text_lem : List ℕ) (room : ℕ) where
  -- ---- no room

  short : room < judge_room → JudgePromise job_text_lem plan_text_lem room (plainly 8 [])
  short h = record {
    says_8 = (λ e. h, λ e. refl);
    says_0 = (λ e. absurd (omega arith), λ r. absurd (omega (arith, r.0)));
    says_10 = (λ e. absurd (omega arith), λ r. absurd (omega (arith, r.0)));
    says_11 = (λ e. absurd (omega arith), λ r. absurd (omega (arith, r.0)));
    writes_0 = λ r e. absurd (omega arith);
    writes_10 = λ r e. absurd (omega arith);
    writes_11 = λ r e. absurd (omega arith);
    job_fault = λ e. absurd (omega arith);
    plan_fault = λ e. absurd (omega arith);
  }

  -- ---- a text's fault

  refused_job : judge_room ≤ room → (n l : ℕ) → read_job_lem job_text_lem ≡ refused n l → JudgePromise job_text_lem plan_text_lem room (on_job job_text_lem plan_text_lem (refused n l))
  refused_job h n l e = record {
    says_8 = (λ f. absurd (job.fault_else n 8 k (omega arith) (omega arith) f), λ f. absurd (omega arith));
    says_0 = (λ f. absurd (omega (arith, job.fault_some n k)), λ r. no r.1.0);
    says_10 = (λ f. absurd (job.fault_else n 10 k (omega arith) (omega arith) f), λ r. no r.1.0);
    says_11 = (λ f. absurd (job.fault_else n 11 k (omega arith) (omega arith) f), λ r. no r.1.0);
    writes_0 = λ r f. no r;
    writes_10 = λ r f. no r;
    writes_11 = λ r f. no r;
    job_fault = λ m i j f. refuses 1 job_text_lem e f;
    plan_fault = λ m g f. not_both f e;
  }
    where
      k : job.JobFault n
      k = (job.fault job_text_lem n l e).0

      no : {X : Type 0} → PlanReading job_text_lem plan_text_lem → X
      no r = not_both r.job_read e

  refused_plan : judge_room ≤ room → (g : Given) → read_job_lem job_text_lem ≡ accepted g → (n l : ℕ) → read_plan_lem g.job plan_text_lem ≡ refused n l
      → JudgePromise job_text_lem plan_text_lem room (on_plan plan_text_lem g.job (refused n l))
  refused_plan h g eg n l e = record {
    says_8 = (λ f. absurd (plan.fault_else n 8 k (omega arith) (omega arith) f), λ f. absurd (omega arith));
    says_0 = (λ f. absurd (omega (arith, plan.fault_some n k)), λ r. no r.1.0);
    says_10 = (λ f. absurd (plan.fault_else n 10 k (omega arith) (omega arith) f), λ r. no r.1.0);
    says_11 = (λ f. absurd (plan.fault_else n 11 k (omega arith) (omega arith) f), λ r. no r.1.0);
    writes_0 = λ r f. no r;
    writes_10 = λ r f. no r;
    writes_11 = λ r f. no r;
    job_fault = λ m i j f. not_both eg f;
    plan_fault = λ m g' f i j q. refuses 2 plan_text_lem e (other_plan job_text_lem plan_text_lem eg f ∙ q);
  }
    where
      k : plan.PlanFault n
      k = (plan.fault g.job plan_text_lem n l e).0

      no : {X : Type 0} → PlanReading job_text_lem plan_text_lem → X
      no r = not_both r.plan_read (sym (other_plan job_text_lem plan_text_lem eg r.job_read) ∙ e)

  -- ---- two texts that read

  module _ (h : judge_room ≤ room) (g : Given) (eg : read_job_lem job_text_lem ≡ accepted g) (st : Stated) (es : read_plan_lem g.job plan_text_lem ≡ accepted st) where
    abbrev here : PlanReading job_text_lem plan_text_lem
    here = record { given = g; stated = st; job_read = eg; plan_read = es }

    abbrev kept : Given → Stated → Type 0
    kept x y = KeepsLives x.job y.plan

    abbrev stating : Given → Stated → Type 0
    stating x y = y.cost ≡ cost_of_lem x.job y.plan

    judged : verdict.JudgementPromise g.job st.cost st.plan (judged_of g.job st.cost st.plan)
    judged = judge g.job st.plan st.cost

    all_kept_lem : KeepsLives g.job st.plan → AllKept g.job st.plan
    all_kept_lem k = lives_kept g.job st.plan k

    keeps : AllKept g.job st.plan → KeepsLives g.job st.plan
    keeps k = kept_lives g.job st.plan (shaped g.job plan_text_lem st es) k

    abbrev Values : Judgement → Type 0
    Values j = verdict.Values g.job st.plan j

    writes_0 : (j : Judgement) → Values j → number_of j ≡ 0 → (judge_reply j).bytes ≡ cost_lines 0 (cost_of_lem g.job st.plan)
    writes_0 (accepts c) v e = ap (cost_lines 0) v
    writes_0 (unkept p d) v e = absurd (omega arith)
    writes_0 (wrong_cost c) v e = absurd (omega arith)

    writes_10 : (j : Judgement) → judged_of g.job st.cost st.plan ≡ j → number_of j ≡ 10
        → (part : ℕ) × ((due : ℕ) × (Overdue g.job st.plan part due × ((judge_reply j).bytes ≡ unkept_lines part due)))
    writes_10 (accepts c) is e = absurd (omega arith)
    writes_10 (unkept p d) is e = (p, (d, (text_due job_text_lem g eg st.plan st.cost p d is, refl)))
    writes_10 (wrong_cost c) is e = absurd (omega arith)

    writes_11 : (j : Judgement) → Values j → number_of j ≡ 11 → (judge_reply j).bytes ≡ cost_lines 11 (cost_of_lem g.job st.plan)
    writes_11 (accepts c) v e = absurd (omega arith)
    writes_11 (unkept p d) v e = absurd (omega arith)
    writes_11 (wrong_cost c) v e = ap (cost_lines 11) v

    not_8 : (j : Judgement) → number_of j ≡ 8 → ⊥
    not_8 (accepts c) e = omega arith
    not_8 (unkept p d) e = omega arith
    not_8 (wrong_cost c) e = omega arith

    read : (j : Judgement) → judged_of g.job st.cost st.plan ≡ j → verdict.JudgementPromise g.job st.cost st.plan j → JudgePromise job_text_lem plan_text_lem room (judge_reply j)
    read j is p = record {
      says_8 = (λ e. absurd (not_8 j e), λ e. absurd (omega arith));
      says_0 = (
        λ e. let x = p.says_0.0 e in (h, (here, (keeps x.0, x.1))),
        λ r. p.says_0.1 (all_kept_lem (moved kept r.1.0 here r.1.1.0), moved stating r.1.0 here r.1.1.1),
      );
      says_10 = (
        λ e. (h, (here, λ k. p.says_10.0 e (all_kept_lem k))),
        λ r. p.says_10.1 (λ k. r.1.1 (moved kept here r.1.0 (keeps k))),
      );
      says_11 = (
        λ e. let x = p.says_11.0 e in (h, (here, (keeps x.0, x.1))),
        λ r. p.says_11.1 (all_kept_lem (moved kept r.1.0 here r.1.1.0), λ c. r.1.1.1 (moved stating here r.1.0 c)),
      );
      writes_0 = λ r e. moved (λ x y. (judge_reply j).bytes ≡ cost_lines 0 (cost_of_lem x.job y.plan)) here r (writes_0 j p.values e);
      writes_10 = λ r e. moved
          (λ x y. (part : ℕ) × ((due : ℕ) × (Overdue x.job y.plan part due × ((judge_reply j).bytes ≡ unkept_lines part due)))) here r (writes_10 j is e);
      writes_11 = λ r e. moved (λ x y. (judge_reply j).bytes ≡ cost_lines 11 (cost_of_lem x.job y.plan)) here r (writes_11 j p.values e);
      job_fault = λ m n l e. not_both eg e;
      plan_fault = λ m g' f n l e. not_both es (other_plan job_text_lem plan_text_lem eg f ∙ e);
    }

  -- ---- all together

  on_plan_lem : judge_room ≤ room → (g : Given) → read_job_lem job_text_lem ≡ accepted g → (x : Outcome Stated) → read_plan_lem g.job plan_text_lem ≡ x → JudgePromise job_text_lem plan_text_lem room (on_plan plan_text_lem g.job x)
  on_plan_lem h g eg (accepted st) es = read h g eg st es (judged_of g.job st.cost st.plan) refl (judged h g eg st es)
  on_plan_lem h g eg (refused n l) e = refused_plan h g eg n l e

  on_job_lem : judge_room ≤ room → (x : Outcome Given) → read_job_lem job_text_lem ≡ x → JudgePromise job_text_lem plan_text_lem room (on_job job_text_lem plan_text_lem x)
  on_job_lem h (accepted g) e = on_plan_lem h g e (read_plan_lem g.job plan_text_lem) refl
  on_job_lem h (refused n l) e = refused_job h n l e

  pub promised : JudgePromise job_text_lem plan_text_lem room (lent judge_room room (judge_said job_text_lem plan_text_lem))
  unfolding judge_said
  promised = with_room (JudgePromise job_text_lem plan_text_lem room) judge_room room (judge_said job_text_lem plan_text_lem) short (λ h. on_job_lem h (read_job_lem job_text_lem) refl)
