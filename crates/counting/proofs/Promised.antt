-- What is handed over keeps the promise on every text (`promised`). By what the text reads as; of an accepted job by the model's promise.
use Prim.Native.Nat.{ℕ, ◌≤◌, ◌<◌}
use mathlib.Core.Path.{◌≡◌, refl, sym, ap, subst, ◌∙◌}
use mathlib.Core.Bool.{Bool, true, false, cond, false≢true}
use mathlib.Core.List.{List, [], ◌∷◌}
use mathlib.Core.Logic.{◌⊎◌, ◌↔◌}
use native.Mathlib.Omega.{arith}
use lib.ListN.{length}
use Rattle.lines.specs.Parser.{Outcome, accepted, refused}
use Rattle.lines.proofs.Outcomes.{one_value, one_fault, not_both}
use Rattle.fault_lines.proofs.Breaks.{span_cuts}
use Rattle.model.specs.Model.{Part, Job, has_holder_lem, HasPlan}
use Rattle.model.specs.Limits.{most_walk, most_count}
use Rattle.model.specs.Promise.{nodes_of, result_of, whole_count, answer_of}
use Rattle.model.specs.Ordered.{Lefts, Ordered}
use Rattle.longest_walk.specs.Longest.{longest, JobCountPromise}
use Rattle.longest_walk.specs.Count.{open_count}
use Rattle.longest_walk.proofs.Counted.{nodes_most, count_promise}
use Rattle.model.proofs.NoHolders.{none_held}
use Rattle.base.specs.Each.{All}
use Rattle.jobs.specs.Valid.{ValidPart, ValidJob}
use Rattle.job_grammar.specs.Grammar.{Given, read_job_lem}
use Rattle.job_grammar.specs.Valid.{Valid}
use Rattle.job_grammar.proofs.Accepted.{valid}
use Rattle.job_grammar.proofs.Numbered.{fault_some, fault}
use Rattle.counting.specs.declared.Counted.{Counted}
use Rattle.counting.specs.Count.{count_given, refusal_of, holder_refusal, counted_job_lem, on_job, count_said}
use Rattle.job_grammar.specs.Reading.{JobReading, job_in}
use Rattle.counting.specs.Promise.{CountPromise}

lefts : (n : ℕ) (parts : List Part) → All (ValidPart n) parts → Lefts parts
lefts n [] h = tt
lefts n (part ∷ parts) h = (h.0.left_high, lefts n parts h.1)

-- a valid job's numbers are in order
pub ordered : (job : Job) → ValidJob job → Ordered job
ordered job v = record { rising = v.rising; lefts = lefts _ job.parts v.parts }

module _ (text : List ℕ) where
  refused_job : (n l : ℕ) → read_job_lem text ≡ refused n l → CountPromise text (refusal_of text n l)
  refused_job n l e = record {
    says_0 = (λ f. absurd (omega (arith, fault_some n (fault text n l e).0)), λ r. no r.0);
    holders = (λ f. let z : ◌≡◌ {A = ℕ} 1 0 = ap (λ (c : Counted). c.text) f in absurd (omega arith), λ r. no r.0);
    below = λ r. no r;
    cap = λ r. no r;
    most = omega arith;
    whole = λ r. no r;
    nodes = λ r. no r;
    any_nodes = λ r. no r;
    enough = λ r. no r;
    one = λ r. no r;
    job_fault = λ i j f. let s = one_fault e f in rw (s.0, s.1) refl;
    span = λ i j f. rw (← (one_fault e f).1) (span_cuts text l);
  }
    where
      no : {X : Type 0} → JobReading text → X
      no r = not_both r.is e

  module _ (g : Given) (eg : read_job_lem text ≡ accepted g) where
    abbrev here : JobReading text
    here = record { given = g; is = eg }

    -- any reading is this one
    given_is : (r : JobReading text) → g ≡ r.given
    given_is r = one_value r.is eg

    limited : Valid g
    limited = valid text g eg

    -- what holds of this job holds of any reading's, and back
    moved : (P : Given → Type 0) → P g → (r : JobReading text) → P r.given
    moved P p r = subst P (given_is r) p

    moved_back : (P : Given → Type 0) (r : JobReading text) → P r.given → P g
    moved_back P r p = subst P (sym (given_is r)) p

    abbrev held : Bool → Given → Type 0
    held t x = has_holder_lem x.job ≡ t

    -- a job with a holder
    held_job_lem : has_holder_lem g.job ≡ true → CountPromise text holder_refusal
    held_job_lem h = record {
      says_0 = (λ e. absurd (omega arith), λ r. no r.0 r.1);
      holders = (λ e. (here, h), λ r. refl);
      below = λ r u. no r u;
      cap = λ r u. no r u;
      most = omega arith;
      whole = λ r u. no r u;
      nodes = λ r u. no r u;
      any_nodes = λ r u. no r u;
      enough = λ r u. no r u;
      one = λ r u. no r u;
      job_fault = λ i j f. not_both eg f;
      span = λ i j f. not_both eg f;
    }
      where
        no : {X : Type 0} (r : JobReading text) → has_holder_lem (job_in r) ≡ false → X
        no r u = absurd (false≢true (sym u ∙ moved (held true) h r))

    -- a job with none
    module _ (none : has_holder_lem g.job ≡ false) where
      abbrev n : ℕ
      n = open_count g.job

      c : JobCountPromise g.job n
      c = count_promise g.job (ordered g.job limited.job) (none_held g.job.parts none)

      unheld_job : CountPromise text (count_given n)
      unheld_job = record {
        says_0 = (λ e. (here, none), λ r. refl);
        holders = (λ e. let z : ◌≡◌ {A = ℕ} 0 12 = ap (λ (c : Counted). c.result) e in absurd (omega arith), λ r. absurd (false≢true (sym none ∙ moved_back (held true) r.0 r.1)));
        below = λ r u. moved (λ x. n < most_count → n ≡ longest x.job) (λ l. omega (arith, c.counts)) r;
        cap = λ r u. moved (λ x. (n ≡ most_count) ↔ (most_count ≤ longest x.job)) ((λ e. omega (arith, c.counts)), λ l. omega (arith, c.counts)) r;
        most = omega (arith, c.counts);
        whole = λ r u. moved (λ x. n < most_count → whole_count x.job ≤ n) c.most r;
        nodes = λ r u. moved (λ x. (walk : ℕ) → walk ≤ most_walk → nodes_of (answer_of x.job walk) ≤ n) c.nodes r;
        any_nodes = λ r u. moved (λ x. n < most_count → (limit : ℕ) → nodes_of (answer_of x.job limit) ≤ n) (λ l limit. omega (arith, c.counts, nodes_most g.job limit)) r;
        enough = λ r u. moved (λ x. n < most_count → (limit : ℕ) → n ≤ limit → result_of (answer_of x.job limit) ≡ 7 → ⊥) (λ l limit m e. c.enough limit l m e) r;
        one = λ r u. moved (λ x. (n ≡ 1) ↔ ((HasPlan x.job → ⊥) ⊎ (length x.job.openings ≡ 0))) c.one r;
        job_fault = λ i j f. not_both eg f;
        span = λ i j f. not_both eg f;
      }

    accepted_job : CountPromise text (counted_job_lem g.job)
    unfolding counted_job_lem
    accepted_job = go (has_holder_lem g.job) refl
      where
        go : (t : Bool) → has_holder_lem g.job ≡ t → CountPromise text (cond t holder_refusal (count_given (open_count g.job)))
        go true e = held_job_lem e
        go false e = unheld_job e

  on_job_lem : (x : Outcome Given) → read_job_lem text ≡ x → CountPromise text (on_job text x)
  on_job_lem (accepted g) e = accepted_job g e
  on_job_lem (refused n l) e = refused_job n l e

  pub promised : CountPromise text (count_said text)
  unfolding count_said
  promised = on_job_lem (read_job_lem text) refl
