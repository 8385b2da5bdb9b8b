-- The hall planner's answer keeps its promise on every text, walk number and room (`promised`). By what the text reads as; of an accepted one by the model's promise.
use Prim.Native.Nat.{ℕ, ◌≤◌, ◌<◌}
use mathlib.Core.Path.{◌≡◌, refl, sym, ap, ◌∙◌, subst}
use mathlib.Core.List.{List, []}
use mathlib.Core.Logic.{inl, inr}
use native.Mathlib.Omega.{arith}
use borrow.Author.Tests.{lt-ltb, le-ltb}
use Rattle.lines.specs.Parser.{Outcome, accepted, refused}
use Rattle.lines.proofs.Outcomes.{one_value, one_fault, not_both}
use Rattle.branch.specs.Planning.{whole_count}
use Rattle.model.specs.Limits.{most_walk}
use Rattle.job_grammar.proofs.Numbered.{fault_some as job-some, fault_else as job-else}
use Rattle.answers.specs.Said.{plainly, lent}
use Rattle.answers.specs.Texts.{on_text}
use Rattle.answers.proofs.Replies.{refuses, with_room}
use Rattle.findings.proofs.Numbers.{not_8}
use Rattle.planning.specs.Plan.{walk_number_lem}
use Rattle.hall_model.specs.Hall.{Hall, HasPlans, SomeWithout}
use Rattle.hall_model.specs.Promise.{HallAnswer, hall_answer, hall_problem}
use Rattle.hall_model.specs.Promise as model
use Rattle.hall_model.proofs.Promised.{promise}
use Rattle.hall_grammar.specs.Grammar.{HallText, meant_hall, read_hall_text}
use Rattle.hall_grammar.specs.Reading.{HallReading, hall_in, meaning, read_hall_lem}
use Rattle.hall_grammar.specs.Valid.{ValidHall}
use Rattle.hall_grammar.proofs.Accepted.{valid_hall, valid_proper, text_is}
use Rattle.hall_grammar.proofs.Numbered.{HallFault, hall_fault}
use Rattle.hall_printing.specs.Lines.{hall_reply}
use Rattle.hall_planning.specs.Hall.{on_hall, hall_said, hall_room}
use Rattle.hall_planning.specs.Promise.{ReportsHall, HallPromise}
use Rattle.hall_planning.proofs.ReadBack.{prints}

-- a fault's number is none of 0 and of 6 to 11
fault_some : (n : ℕ) → HallFault n → 1 ≤ n
fault_some n (inl k) = job-some n k
fault_some n (inr k) = omega (arith, k)

fault_else : (n i : ℕ) → HallFault n → 5 < i → i < 12 → n ≡ i → ⊥
fault_else n i (inl k) l m e = job-else n i k l m e
fault_else n i (inr k) l m e = omega (arith, k)

-- a refused text's fault, of what it says
pub fault_of : (text : List ℕ) (n l : ℕ) → read_hall_lem text ≡ refused n l → HallFault n × (l ≤ 65537)
fault_of text n l e = go (read_hall_text text) refl
  where
    one : (i j : ℕ) → ◌≡◌ {A = Outcome Hall} (refused i j) (refused n l) → ◌≡◌ {A = Outcome HallText} (refused i j) (refused n l)
    one i j h = let o = one_fault refl h in λ k. refused (o.0 k) (o.1 k)

    go : (x : Outcome HallText) → read_hall_text text ≡ x → HallFault n × (l ≤ 65537)
    go (accepted t) q = not_both (ap meaning q) e
    go (refused i j) q = hall_fault text n l (q ∙ one i j (sym (ap meaning q) ∙ e))

module _ (text : List ℕ) (walk room : ℕ) where
  short : room < hall_room → HallPromise text walk room (plainly 8 [])
  short h = record {
    says_8 = (λ e. h, λ e. refl);
    says_6 = (λ e. absurd (omega arith), λ r. absurd (omega (arith, r.0)));
    says_7 = (λ e. absurd (omega arith), λ r. absurd (omega (arith, r.0)));
    says_0 = (λ e. absurd (omega arith), λ r. absurd (omega (arith, r.0)));
    answers = λ e. absurd (omega arith);
    text_fault = λ e. absurd (omega arith);
    any_walk = λ e. absurd (omega arith);
    above = λ e. rw (lt-ltb room hall_room h) refl;
  }

  -- where there is room the whole answer is given
  fits : hall_room ≤ room → (other : ℕ) → lent hall_room room (hall_said text other) ≡ on_text 1 text (on_hall other) (read_hall_lem text)
  unfolding hall_said
  fits h other = rw (le-ltb room hall_room h) refl

  refused_text : hall_room ≤ room → (n l : ℕ) → read_hall_lem text ≡ refused n l → HallPromise text walk room (on_text 1 text (on_hall walk) (refused n l))
  refused_text h n l e = record {
    says_8 = (λ f. absurd (fault_else n 8 k (omega arith) (omega arith) f), λ f. absurd (omega arith));
    says_6 = (λ f. absurd (fault_else n 6 k (omega arith) (omega arith) f), λ r. no r.1.0);
    says_7 = (λ f. absurd (fault_else n 7 k (omega arith) (omega arith) f), λ r. no r.1.0);
    says_0 = (λ f. absurd (omega (arith, fault_some n k)), λ r. no r.1.0);
    answers = λ m r. no r;
    text_fault = λ m i j f. refuses 1 text e f;
    any_walk = λ f. absurd (omega (arith, fault_some n k, f));
    above = λ f. fits h most_walk ∙ ap (on_text 1 text (on_hall most_walk)) e;
  }
    where
      k : HallFault n
      k = (fault_of text n l e).0

      no : {X : Type 0} → HallReading text → X
      no r = not_both (ap meaning r.is) e

  module _ (h : hall_room ≤ room) (t : HallText) (is : read_hall_text text ≡ accepted t) where
    abbrev here : HallReading text
    here = record { said = t; is = is }

    abbrev hall : Hall
    hall = meant_hall t

    abbrev limit : ℕ
    limit = walk_number_lem walk

    abbrev answer : HallAnswer
    answer = hall_answer hall limit

    v : ValidHall t
    v = valid_hall text t is

    promises : model.HallAnswerPromise hall limit answer
    promises = promise hall (valid_proper t v) limit

    -- any reading is this one
    said_is : (r : HallReading text) → r.said ≡ t
    said_is r = one_value is r.is

    moved : (P : Hall → Type 0) (r : HallReading text) → P (hall_in r) → P hall
    moved P r p = subst (λ (x : HallText). P (meant_hall x)) (said_is r) p

    -- what is said at another walk number
    at : (other : ℕ) → on_text 1 text (on_hall other) (read_hall_lem text) ≡ on_hall other hall
    at other = ap (λ (x : Outcome HallText). on_text 1 text (on_hall other) (meaning x)) is

    full : most_walk ≤ walk → walk_number_lem most_walk ≡ limit
    full w = omega (arith, w)

    reports : ReportsHall text walk t (hall_reply hall answer)
    reports = record { stands = text_is text t is; answer = answer; promise = promises; says = refl; prints = prints t v limit answer promises }

    read : HallPromise text walk room (hall_reply hall answer)
    unfolding hall_answer
    read = record {
      says_8 = (λ e. absurd (not_8 answer e), λ e. absurd (omega arith));
      says_6 = (λ e. (h, (here, promises.says_6.0 e)), λ r. promises.says_6.1 (moved SomeWithout r.1.0 r.1.1));
      says_7 = (
        λ e. (h, (here, promises.planned.says_7.0 e)),
        λ r. promises.planned.says_7.1 (moved (λ x. HasPlans x × (limit < whole_count (hall_problem x))) r.1.0 r.1.1),
      );
      says_0 = (
        λ e. (h, (here, promises.planned.says_0.0 e)),
        λ r. promises.planned.says_0.1 (moved (λ x. HasPlans x × (whole_count (hall_problem x) ≤ limit)) r.1.0 r.1.1),
      );
      answers = λ m r. subst (λ (x : HallText). ReportsHall text walk x (hall_reply hall answer)) (sym (said_is r)) reports;
      text_fault = λ m n l e. not_both (ap meaning is) e;
      any_walk = λ e other w. fits h other ∙ at other ∙ ap (hall_reply hall) (promises.planned.any_walk e (walk_number_lem other) (omega (arith, w)));
      above = λ w. fits h most_walk ∙ at most_walk ∙ ap (λ (n : ℕ). hall_reply hall (hall_answer hall n)) (full w);
    }

  on_text_lem : hall_room ≤ room → (x : Outcome HallText) → read_hall_text text ≡ x → HallPromise text walk room (on_text 1 text (on_hall walk) (meaning x))
  on_text_lem h (accepted t) e = read h t e
  on_text_lem h (refused n l) e = refused_text h n l (ap meaning e)

  pub promised : HallPromise text walk room (lent hall_room room (hall_said text walk))
  unfolding hall_said
  promised = with_room (HallPromise text walk room) hall_room room (hall_said text walk) short (λ h. on_text_lem h (read_hall_text text) refl)
