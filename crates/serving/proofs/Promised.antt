-- The call's answer keeps its promise on every pair of texts and every room (`promised`): faults as of the judge; else the answer to the job and the stops, whose plan lines are read back and accepted by the judge.
-- Plan texts with the same stops get the same answer (`only_stops`).
use Prim.Native.Nat.{ℕ, ◌≤◌, ◌<◌}
use mathlib.Core.Path.{◌≡◌, refl, sym, ap, ◌∙◌}
use mathlib.Core.Bool.{Bool}
use mathlib.Core.List.{List, []}
use native.Mathlib.Omega.{arith}
use borrow.Author.Tests.{lt-ltb, le-ltb}
use Rattle.lines.specs.Parser.{Outcome, accepted, refused}
use Rattle.lines.proofs.Outcomes.{not_both}
use Rattle.model.proofs.Verdicts.{lives_shaped}
use Rattle.jobs.specs.Valid.{ValidJob}
use Rattle.job_grammar.specs.Grammar.{Given, read_job_lem}
use Rattle.job_grammar.proofs.Accepted.{valid}
use Rattle.job_grammar.proofs.Numbered as job
use Rattle.plan_grammar.specs.Grammar.{Stated, read_plan_lem}
use Rattle.plan_grammar.specs.Rendering.{plan_lines_of}
use Rattle.plan_grammar.proofs.Numbered as plan
use Rattle.plan_grammar.proofs.Shapes.{shaped}
use Rattle.plan_grammar.proofs.Printed.{read_back}
use Rattle.plan_costs.proofs.Dearest.{cost_most}
use Rattle.answers.specs.Said.{Said, plainly, lent}
use Rattle.answers.proofs.Replies.{with_room}
use Rattle.judging.specs.Judge as judging
use Rattle.judging.specs.Judge.{judge_reply, judge_said, judge_room}
use Rattle.judging.specs.Promise.{PlanReading}
use Rattle.judging.proofs.Readings.{other_plan, moved}
use Rattle.counting.proofs.Promised.{ordered}
use Rattle.latest.specs.Latest.{LatestAnswer, unserved, serves, latest_answer_of}
use Rattle.latest.specs.Promise.{CanKeep, LatestPromise}
use Rattle.latest.proofs.Promised.{latest_promise, latest_accepted}
use Rattle.plan_printing.specs.Printed.{printed_lines}
use Rattle.serving.specs.Serve.{served_lines, latest_reply, on_plan, on_job, latest_said, latest_room}
use Rattle.serving.specs.Promise.{job_in, stated_stops, PrintsLatest, ServePromise}

-- ---- two texts that read

module _ {job_text_lem plan_text_lem : List ℕ} (r : PlanReading job_text_lem plan_text_lem) where
  job_valid : ValidJob (job_in r)
  job_valid = (valid job_text_lem r.given r.job_read).job

  -- the answer to the job and the stops keeps the model's promise
  pub answer_keeps : LatestPromise (job_in r) (stated_stops r) (latest_answer_of (job_in r) (stated_stops r))
  answer_keeps = latest_promise (job_in r) (stated_stops r) (ordered (job_in r) job_valid) (shaped (job_in r) plan_text_lem r.stated r.plan_read).stops

  says : latest_said job_text_lem plan_text_lem ≡ latest_reply r.given (latest_answer_of (job_in r) (stated_stops r))
  unfolding latest_said
  says = ap (on_job job_text_lem plan_text_lem) r.job_read ∙ ap (on_plan plan_text_lem r.given) r.plan_read

module _ (job_text_lem plan_text_lem : List ℕ) (room : ℕ) where
  -- ---- no room

  short : room < latest_room → ServePromise job_text_lem plan_text_lem room (plainly 8 [])
  short h = record {
    says_8 = (λ e. h, λ e. refl);
    says_6 = (λ e. absurd (omega arith), λ r. absurd (omega (arith, r.0)));
    says_0 = (λ e. absurd (omega arith), λ r. absurd (omega (arith, r.0)));
    writes_6 = λ e. absurd (omega arith);
    writes_0 = λ r e. absurd (omega arith);
    job_fault = λ n l e. rw (lt-ltb room judge_room h);
    plan_fault = λ g e n l f. rw (lt-ltb room judge_room h);
  }

  -- ---- a text's fault

  -- an answer with a fault's number is the judge's, and nothing reads
  faulty : latest_room ≤ room → (s : Said) → (s.result ≡ 8 → ⊥) → (s.result ≡ 6 → ⊥) → (s.result ≡ 0 → ⊥) → (PlanReading job_text_lem plan_text_lem → ⊥) → s ≡ judge_said job_text_lem plan_text_lem
      → ServePromise job_text_lem plan_text_lem room s
  faulty h s not_8 not-6 not_0 unread same = record {
    says_8 = (λ e. absurd (not_8 e), λ e. absurd (omega arith));
    says_6 = (λ e. absurd (not-6 e), λ r. absurd (unread r.1.0));
    says_0 = (λ e. absurd (not_0 e), λ r. absurd (unread r.1.0));
    writes_6 = λ e. absurd (not-6 e);
    writes_0 = λ r e. absurd (unread r);
    job_fault = λ n l e. rw (le-ltb room judge_room h) same;
    plan_fault = λ g e n l f. rw (le-ltb room judge_room h) same;
  }

  refused_job : latest_room ≤ room → (n l : ℕ) → read_job_lem job_text_lem ≡ refused n l → ServePromise job_text_lem plan_text_lem room (on_job job_text_lem plan_text_lem (refused n l))
  unfolding judge_said
  refused_job h n l e =
      let k = (job.fault job_text_lem n l e).0 in
      faulty h (on_job job_text_lem plan_text_lem (refused n l)) (job.fault_else n 8 k (omega arith) (omega arith)) (job.fault_else n 6 k (omega arith) (omega arith)) (λ f. omega (arith, job.fault_some n k))
      (λ r. not_both r.job_read e) (sym (ap (judging.on_job job_text_lem plan_text_lem) e))

  refused_plan : latest_room ≤ room → (g : Given) → read_job_lem job_text_lem ≡ accepted g → (n l : ℕ) → read_plan_lem g.job plan_text_lem ≡ refused n l
      → ServePromise job_text_lem plan_text_lem room (on_plan plan_text_lem g (refused n l))
  unfolding judge_said
  refused_plan h g eg n l e =
      let k = (plan.fault g.job plan_text_lem n l e).0 in
      faulty h (on_plan plan_text_lem g (refused n l)) (plan.fault_else n 8 k (omega arith) (omega arith)) (plan.fault_else n 6 k (omega arith) (omega arith)) (λ f. omega (arith, plan.fault_some n k))
      (λ r. not_both r.plan_read (sym (other_plan job_text_lem plan_text_lem eg r.job_read) ∙ e)) (sym (ap (judging.on_job job_text_lem plan_text_lem) eg ∙ ap (judging.on_plan plan_text_lem g.job) e))

  -- ---- two texts that read

  module _ (h : latest_room ≤ room) (here : PlanReading job_text_lem plan_text_lem) where
    abbrev servable : Given → Stated → Type 0
    servable g st = CanKeep g.job st.plan.stops

    read : (a : LatestAnswer) → LatestPromise (job_in here) (stated_stops here) a → ServePromise job_text_lem plan_text_lem room (latest_reply here.given a)
    unfolding judge_said served_lines printed_lines
    read unserved p = record {
      says_8 = (λ e. absurd (omega arith), λ e. absurd (omega arith));
      says_6 = (λ e. (h, (here, p.says_6.0 refl)), λ e. refl);
      says_0 = (λ e. absurd (omega arith), λ r. absurd (p.says_6.0 refl (moved servable r.1.0 here r.1.1)));
      writes_6 = λ e. refl;
      writes_0 = λ r e. absurd (omega arith);
      job_fault = λ n l e. not_both here.job_read e;
      plan_fault = λ g e n l f. not_both here.plan_read (other_plan job_text_lem plan_text_lem here.job_read e ∙ f);
    }
    read (serves cost q) p = record {
      says_8 = (λ e. absurd (omega arith), λ e. absurd (omega arith));
      says_6 = (λ e. absurd (omega arith), λ r. absurd (r.1.1 (moved servable here r.1.0 (p.says_0.0 refl))));
      says_0 = (λ e. (h, (here, p.says_0.0 refl)), λ e. refl);
      writes_6 = λ e. absurd (omega arith);
      writes_0 = λ r e. moved (λ g st. PrintsLatest job_text_lem g st.plan.stops (latest_reply here.given (serves cost q))) here r prints;
      job_fault = λ n l e. not_both here.job_read e;
      plan_fault = λ g e n l f. not_both here.plan_read (other_plan job_text_lem plan_text_lem here.job_read e ∙ f);
    }
      where
        back : read_plan_lem (job_in here) (plan_lines_of (job_in here) cost q) ≡ accepted (record { cost = cost; plan = q })
        back =
            read_back (job_in here) (job_valid here) cost q (omega (arith, p.plan_for_lem.states, cost_most (job_in here) (job_valid here) q)) (lives_shaped (job_in here) q p.plan_for_lem.keeps)

        prints : PrintsLatest job_text_lem here.given (stated_stops here) (latest_reply here.given (serves cost q))
        prints = record {
          cost = cost;
          plan = q;
          latest = p.plan_for_lem;
          lines = plan_lines_of (job_in here) cost q;
          writes = refl;
          reads_back = back;
          judged =
              ap (judging.on_job job_text_lem (plan_lines_of (job_in here) cost q)) here.job_read
              ∙ ap (judging.on_plan (plan_lines_of (job_in here) cost q) (job_in here)) back
              ∙ ap judge_reply (latest_accepted (job_in here) (stated_stops here) cost q p.plan_for_lem);
        }

  -- ---- all together

  on_plan_lem : latest_room ≤ room → (g : Given) → read_job_lem job_text_lem ≡ accepted g → (x : Outcome Stated) → read_plan_lem g.job plan_text_lem ≡ x → ServePromise job_text_lem plan_text_lem room (on_plan plan_text_lem g x)
  on_plan_lem h g eg (accepted st) es =
      let r : PlanReading job_text_lem plan_text_lem = record { given = g; stated = st; job_read = eg; plan_read = es } in
      read h r (latest_answer_of g.job st.plan.stops) (answer_keeps r)
  on_plan_lem h g eg (refused n l) e = refused_plan h g eg n l e

  on_job_lem : latest_room ≤ room → (x : Outcome Given) → read_job_lem job_text_lem ≡ x → ServePromise job_text_lem plan_text_lem room (on_job job_text_lem plan_text_lem x)
  on_job_lem h (accepted g) e = on_plan_lem h g e (read_plan_lem g.job plan_text_lem) refl
  on_job_lem h (refused n l) e = refused_job h n l e

  pub promised : ServePromise job_text_lem plan_text_lem room (lent latest_room room (latest_said job_text_lem plan_text_lem))
  unfolding latest_said
  promised = with_room (ServePromise job_text_lem plan_text_lem room) latest_room room (latest_said job_text_lem plan_text_lem) short (λ h. on_job_lem h (read_job_lem job_text_lem) refl)

-- E9.2. "of which only the stops count"
pub only_stops : (job plan other : List ℕ) (given : Given) (s t : Stated) → read_job_lem job ≡ accepted given → read_plan_lem given.job plan ≡ accepted s → read_plan_lem given.job other ≡ accepted t
    → s.plan.stops ≡ t.plan.stops → latest_said job plan ≡ latest_said job other
only_stops job plan other given s t r p q e =
    says (record { given = given; stated = s; job_read = r; plan_read = p })
    ∙ ap (λ (l : List Bool). latest_reply given (latest_answer_of given.job l)) e
    ∙ sym (says (record { given = given; stated = t; job_read = r; plan_read = q }))
