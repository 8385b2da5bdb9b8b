-- The planner's answer keeps its promise on every text, walk number and room (`promised`). By what the text reads as; of an accepted job by the model's promise.
use Prim.Native.Nat.{ℕ, ◌≤◌, ◌<◌}
use mathlib.Core.Path.{◌≡◌, refl, sym, ap, ◌∙◌, subst}
use mathlib.Core.List.{List, []}
use native.Mathlib.Omega.{arith}
use borrow.Author.Tests.{lt-ltb, le-ltb}
use Rattle.lines.specs.Parser.{Outcome, accepted, refused}
use Rattle.lines.proofs.Outcomes.{one_value, not_both}
use Rattle.model.specs.Limits.{most_walk}
use Rattle.model.specs.Model.{HasPlan}
use Rattle.model.specs.Promise as model
use Rattle.model.specs.Promise.{PlannerAnswer, whole_count, answer_of}
use Rattle.model.proofs.Promised.{promise, any_walk}
use Rattle.job_grammar.specs.Grammar.{Given, read_job_lem}
use Rattle.job_grammar.proofs.Numbered.{JobFault, fault_some, fault_else, fault}
use Rattle.answers.specs.Said.{plainly, lent}
use Rattle.answers.proofs.Replies.{refuses, with_room}
use Rattle.findings.proofs.Numbers.{not_8}
use Rattle.planning.specs.Plan.{planner_reply, walk_number_lem, on_job, plan_said, plan_room}
use Rattle.planning.proofs.ReadBack.{prints}
use Rattle.job_grammar.specs.Reading.{JobReading}
use Rattle.planning.specs.Promise.{ReportsAnswer, PlanPromise}

module _ (text : List ℕ) (walk room : ℕ) where
  short : room < plan_room → PlanPromise text walk room (plainly 8 [])
  short h = record {
    says_8 = (λ e. h, λ e. refl);
    says_6 = (λ e. absurd (omega arith), λ r. absurd (omega (arith, r.0)));
    says_7 = (λ e. absurd (omega arith), λ r. absurd (omega (arith, r.0)));
    says_0 = (λ e. absurd (omega arith), λ r. absurd (omega (arith, r.0)));
    answers = λ e. absurd (omega arith);
    job_fault = λ e. absurd (omega arith);
    any_walk = λ e. absurd (omega arith);
    above = λ e. rw (lt-ltb room plan_room h) refl;
  }

  -- where there is room the whole answer is given
  fits : plan_room ≤ room → (other : ℕ) → lent plan_room room (plan_said text other) ≡ on_job text other (read_job_lem text)
  unfolding plan_said
  fits h other = rw (le-ltb room plan_room h) refl

  refused_job : plan_room ≤ room → (n l : ℕ) → read_job_lem text ≡ refused n l → PlanPromise text walk room (on_job text walk (refused n l))
  refused_job h n l e = record {
    says_8 = (λ f. absurd (fault_else n 8 k (omega arith) (omega arith) f), λ f. absurd (omega arith));
    says_6 = (λ f. absurd (fault_else n 6 k (omega arith) (omega arith) f), λ r. no r.1.0);
    says_7 = (λ f. absurd (fault_else n 7 k (omega arith) (omega arith) f), λ r. no r.1.0);
    says_0 = (λ f. absurd (omega (arith, fault_some n k)), λ r. no r.1.0);
    answers = λ m r. no r;
    job_fault = λ m i j f. refuses 1 text e f;
    any_walk = λ f. absurd (omega (arith, fault_some n k, f));
    above = λ f. fits h most_walk ∙ ap (on_job text most_walk) e;
  }
    where
      k : JobFault n
      k = (fault text n l e).0

      no : {X : Type 0} → JobReading text → X
      no r = not_both r.is e

  module _ (h : plan_room ≤ room) (g : Given) (eg : read_job_lem text ≡ accepted g) where
    abbrev here : JobReading text
    here = record { given = g; is = eg }

    -- any reading is this one
    given_is : (r : JobReading text) → r.given ≡ g
    given_is r = one_value eg r.is

    abbrev answer : PlannerAnswer
    answer = answer_of g.job (walk_number_lem walk)

    promises : model.Promise g.job (walk_number_lem walk) answer
    promises = promise g.job (walk_number_lem walk)

    moved : (P : Given → Type 0) (r : JobReading text) → P r.given → P g
    moved P r p = subst P (given_is r) p

    -- what is said at another walk number
    at : (other : ℕ) → on_job text other (read_job_lem text) ≡ planner_reply g (answer_of g.job (walk_number_lem other))
    at other = ap (on_job text other) eg

    full : most_walk ≤ walk → walk_number_lem most_walk ≡ walk_number_lem walk
    full w = omega (arith, w)

    read : PlanPromise text walk room (planner_reply g answer)
    read = record {
      says_8 = (λ e. absurd (not_8 answer e), λ e. absurd (omega arith));
      says_6 = (λ e. (h, (here, promises.says_6.0 e)), λ r. promises.says_6.1 (moved (λ x. HasPlan x.job → ⊥) r.1.0 r.1.1));
      says_7 = (
        λ e. (h, (here, promises.says_7.0 e)),
        λ r. promises.says_7.1 (moved (λ x. HasPlan x.job × (walk_number_lem walk < whole_count x.job)) r.1.0 r.1.1),
      );
      says_0 = (
        λ e. (h, (here, promises.says_0.0 e)),
        λ r. promises.says_0.1 (moved (λ x. HasPlan x.job × (whole_count x.job ≤ walk_number_lem walk)) r.1.0 r.1.1),
      );
      answers = λ m r. subst (λ (x : Given). ReportsAnswer text walk x (planner_reply g answer)) (sym (given_is r)) (record { answer = answer; promise = promises; says = refl; prints = prints text g eg (walk_number_lem walk) answer promises });
      job_fault = λ m n l e. not_both eg e;
      any_walk = λ e other w. fits h other ∙ at other ∙ ap (planner_reply g) (any_walk g.job (walk_number_lem walk) (promises.says_0.0 e).1 (walk_number_lem other) (omega (arith, w)));
      above = λ w. fits h most_walk ∙ at most_walk ∙ ap (λ (n : ℕ). planner_reply g (answer_of g.job n)) (full w);
    }

  on_job_lem : plan_room ≤ room → (x : Outcome Given) → read_job_lem text ≡ x → PlanPromise text walk room (on_job text walk x)
  on_job_lem h (accepted g) e = read h g e
  on_job_lem h (refused n l) e = refused_job h n l e

  pub promised : PlanPromise text walk room (lent plan_room room (plan_said text walk))
  unfolding plan_said
  promised = with_room (PlanPromise text walk room) plan_room room (plan_said text walk) short (λ h. on_job_lem h (read_job_lem text) refl)
