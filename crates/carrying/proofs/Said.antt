-- The call says 0 exactly where carrying on is accepted, and then writes the text that is given (`carries_said`, `said_carries`); so E13 holds of its answers (`two_or_one_said`).
use Prim.Native.Nat.{ℕ}
use mathlib.Core.Path.{◌≡◌, refl, sym, ap, ◌∙◌}
use mathlib.Core.List.{List}
use native.Mathlib.Omega.{arith}
use Rattle.lines.specs.Parser.{Outcome, accepted, refused}
use Rattle.model.specs.Verdict.{Judgement, accepts, unkept, wrong_cost}
use Rattle.job_grammar.specs.Grammar.{JobText, meaning, read_job_text}
use Rattle.job_grammar.specs.Rendering.{job_text_lem}
use Rattle.job_grammar.proofs.Accepted.{valid_text}
use Rattle.job_grammar.proofs.Numbered.{fault, fault_some}
use Rattle.plan_grammar.proofs.Numbered as plan
use Rattle.plan_costs.proofs.Dearest.{cost_most}
use Rattle.answers.specs.Said.{Said, plainly}
use Rattle.carry.specs.Carry.{carried}
use Rattle.carry.specs.Answer.{carry_number, carry_answered}
use Rattle.carry.proofs.Answers.{log_promise}
use Rattle.log_grammar.specs.Grammar.{LogText, log_of, read_log}
use Rattle.job_grammar.specs.Reading.{meant_job}
use Rattle.carry_texts.specs.Carried.{carried_text}
use Rattle.carry_texts.specs.Carries.{Carries, done_in, joined_lines}
use Rattle.log_grammar.proofs.Logs.{log_tells}
use Rattle.log_grammar.proofs.Numbered.{log_fault}
use Rattle.carry_texts.proofs.Joined.{two_or_one}
use Rattle.carrying.specs.Carry.{said_after, judged_done, on_log, on_job, carry_said}

module _ {job log next : List ℕ} where
  pub carries_said : Carries job log next → carry_said job log ≡ plainly 0 next
  unfolding carry_said
  carries_said c =
      let t = c.text in
      let done = log_of (meant_job t) c.said in
      let logged = (log_tells (meant_job t) (valid_text job t c.job_read).means.job log c.said c.log_read).logged in
      ap (on_job job log) c.job_read ∙ ap (on_log log t) c.log_read
      ∙ go (judged_done t done) ((log_promise (meant_job t) done logged).says_0.1 c.accepts) ∙ ap (plainly 0) (sym c.gives)
    where
      go : (j : Judgement) → carry_number (carry_answered (carried (meant_job c.text) (done_in c)) j) ≡ 0 → said_after c.text (done_in c) j ≡ plainly 0 (job_text_lem (carried_text c.text (done_in c)))
      go (accepts cost) e = refl
      go (unkept part due) e = absurd (omega arith)
      go (wrong_cost cost) e = absurd (omega arith)

  pub said_carries : carry_said job log ≡ plainly 0 next → Carries job log next
  unfolding carry_said
  said_carries e = by_job (read_job_text job) refl e
    where
      result_in : Said → ℕ
      result_in s = s.result

      bytes_in : Said → List ℕ
      bytes_in s = s.bytes

      by_judgement : (t : JobText) (said : LogText) → read_job_text job ≡ accepted t → read_log (meant_job t) log ≡ accepted said
          → (j : Judgement) → judged_done t (log_of (meant_job t) said) ≡ j → said_after t (log_of (meant_job t) said) j ≡ plainly 0 next → Carries job log next
      by_judgement t said r l (unkept part due) f e = let z : ◌≡◌ {A = ℕ} 10 0 = ap result_in e in absurd (omega arith)
      by_judgement t said r l (wrong_cost cost) f e = let z : ◌≡◌ {A = ℕ} 11 0 = ap result_in e in absurd (omega arith)
      by_judgement t said r l (accepts cost) f e =
          let logged = (log_tells (meant_job t) (valid_text job t r).means.job log said l).logged in
          let done = log_of (meant_job t) said in
          record {
            text = t;
            said = said;
            job_read = r;
            log_read = l;
            accepts = (log_promise (meant_job t) done logged).says_0.0 (ap (λ (j : Judgement). carry_number (carry_answered (carried (meant_job t) done) j)) f);
            gives = sym (ap bytes_in e);
          }

      by_log : (t : JobText) → read_job_text job ≡ accepted t → (x : Outcome LogText) → read_log (meant_job t) log ≡ x → on_log log t x ≡ plainly 0 next → Carries job log next
      by_log t r (accepted said) l e = by_judgement t said r l (judged_done t (log_of (meant_job t) said)) refl e
      by_log t r (refused n i) l e =
          let z : n ≡ 0 = ap result_in e in
          absurd (omega (arith, plan.fault_some n (log_fault (meant_job t) log n i l).0))

      by_job : (x : Outcome JobText) → read_job_text job ≡ x → on_job job log x ≡ plainly 0 next → Carries job log next
      by_job (accepted t) r e = by_log t r (read_log (meant_job t) log) refl e
      by_job (refused n i) r e =
          let z : n ≡ 0 = ap result_in e in
          absurd (omega (arith, fault_some n (fault job n i (ap meaning r)).0))

-- E13.1. "If carrying on by a first log and then by a second is accepted both times, carrying on by the joined log shall be accepted and give the identical job text."
pub two_or_one_said : (job first next second last : List ℕ) (a : carry_said job first ≡ plainly 0 next) (b : carry_said next second ≡ plainly 0 last)
    → carry_said job (joined_lines (said_carries a) (said_carries b)) ≡ plainly 0 last
two_or_one_said job first next second last a b =
    let c = said_carries a in
    carries_said (two_or_one c (said_carries b) (λ plan. omega (arith, cost_most (meant_job c.text) (valid_text job c.text c.job_read).means.job plan)))
