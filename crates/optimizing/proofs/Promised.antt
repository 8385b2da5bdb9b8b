-- What the search ends in keeps the call's promise on every text, walk number and room: of an accepted job by what the end is worth (`promised_read`), and where the text is refused (`promised_refused`).
use Prim.Native.Nat.{ℕ, ◌≤◌, ◌<◌}
use mathlib.Core.Path.{◌≡◌, refl, sym, ap, ap₂, ◌∙◌, subst}
use mathlib.Core.List.{List, [], ◌++◌}
use mathlib.Core.Bool.{Bool}
use mathlib.Core.Logic.{◌⊎◌, inl, inr, ⊎_elim}
use native.Mathlib.Omega.{arith}
use Rattle.std.specs.Prelude.{None, Some}
use Rattle.lines.specs.Text.{line_of}
use Rattle.lines.specs.Parser.{accepted, refused}
use Rattle.lines.proofs.Outcomes.{one_value, not_both}
use Rattle.branch.proofs.Unique.{best_cost, best_same}
use Rattle.model.specs.Model.{Plan, HasPlan}
use Rattle.model.specs.Promise.{PlannerAnswer, no_plan_lem2, cut_none, cut, optimum, result_of, job_problem, BestPlan, Any, Walked, answer_of}
use Rattle.model.proofs.Promised.{promise}
use Rattle.model.proofs.Unique.{determined}
use Rattle.shares.proofs.SamePlan.{best_answered}
use Rattle.job_grammar.specs.Grammar.{Given, read_job_lem}
use Rattle.job_grammar.specs.Reading.{JobReading}
use Rattle.job_grammar.proofs.Numbered.{JobFault, fault_some, fault_else, fault}
use Rattle.plan_grammar.specs.Rendering.{plan_lines_of}
use Rattle.answers.specs.Said.{Said, plainly, refusal, lent}
use Rattle.answers.proofs.Replies.{refuses, with_room}
use Rattle.plan_printing.specs.Printed.{printed_lines}
use Rattle.planning.specs.Plan as planner
use Rattle.planning.specs.Plan.{planned_lines, walk_number_lem, plan_said}
use Rattle.planning.specs.Promise.{PrintsBehind}
use Rattle.findings.proofs.Numbers.{not_8}
use Rattle.planning.proofs.ReadBack.{reads_back, judge_accepts}
use Rattle.optimum_search.specs.Ends.{Ends}
use Rattle.optimizing.specs.Optimum.{floor_lines, optimum_reply, optimum_room}
use Rattle.optimizing.specs.Promise.{PrintsBest, CutShort, SameBehind, OptimumPromise}

-- ---- what is written for an accepted text

-- 6 is written alone
six_lines : (given : Given) (a : PlannerAnswer) → result_of a ≡ 6 → (optimum_reply given a).bytes ≡ line_of "result=" 6
six_lines given no_plan_lem2 e = refl
six_lines given (cut_none n f) e = absurd (omega arith)
six_lines given (cut n f c q) e = absurd (omega arith)
six_lines given (optimum n f c q) e = absurd (omega arith)

module _ (text : List ℕ) (given : Given) (is : read_job_lem text ≡ accepted given) where
  -- a plan that is the best among some decisions, behind other lines
  behind : (Among : List Bool → Type 0) (front : List ℕ) (cost : ℕ) (plan : Plan) (s : Said) → BestPlan given.job Among cost plan → s.bytes ≡ front ++ printed_lines given cost plan → PrintsBehind text given front s cost plan
  unfolding printed_lines
  behind Among front cost plan s best e = record {
    lines = plan_lines_of given.job cost plan;
    written = e;
    reads_back = reads_back text given is Among cost plan best;
    judged = judge_accepts text given is Among cost plan best;
  }

  -- whatever is an answer of 0, at any walk number, has the same bytes
  same_bytes : (s t : Said) → PrintsBest text given s → PrintsBest text given t → t.bytes ≡ s.bytes
  same_bytes s t x y =
      let problem = job_problem given.job in
      let unique = determined given.job in
      let k = best_cost problem unique Any y.cost x.cost y.plan x.plan y.best x.best in
      let p = best_same problem unique Any y.cost x.cost y.plan x.plan y.best x.best in
      y.all ∙ ap₂ (λ (c : ℕ) (q : Plan). line_of "result=" 0 ++ printed_lines given c q) k p ∙ sym x.all

  -- where the planner says 0 its plan is this one
  planner_same : (s : Said) → PrintsBest text given s → (other : ℕ) → (plan_said text other).result ≡ 0 → SameBehind s (plan_said text other)
  unfolding plan_said planned_lines
  planner_same s x other e =
      let walk = walk_number_lem other in
      let says : plan_said text other ≡ planner.planner_reply given (answer_of given.job walk) = ap (planner.on_job text other) is in
      let ended = ((promise given.job walk).says_0.0 (sym (ap (λ (t : Said). t.result) says) ∙ e)).1 in
      let b = best_answered given.job x.cost x.plan x.best walk ended in
      record {
        nodes = b.0;
        floor = b.1;
        behind = printed_lines given x.cost x.plan;
        here = x.all;
        there = ap (λ (t : Said). t.bytes) says ∙ ap (λ (a : PlannerAnswer). planner.planner_lines given a) b.2;
      }

  module _ (walk : ℕ) where
    abbrev Ending : PlannerAnswer → Type 0
    Ending a = Ends given.job (walk_number_lem walk) a

    zero : (a : PlannerAnswer) → Ending a → result_of a ≡ 0 → PrintsBest text given (optimum_reply given a)
    zero no_plan_lem2 p e = absurd (omega arith)
    zero (cut_none n f) p e = absurd (omega arith)
    zero (cut n f c q) p e = absurd (omega arith)
    zero (optimum n f c q) p e = record { cost = c; plan = q; best = p; prints = behind Any (line_of "result=" 0) c q (optimum_reply given (optimum n f c q)) p refl; all = refl }

    seven : (a : PlannerAnswer) → Ending a → result_of a ≡ 7 → CutShort text walk given (optimum_reply given a)
    seven no_plan_lem2 p e = absurd (omega arith)
    seven (cut_none n f) p e = record { floor = f; in_hand = None; beyond = p.0; writes = record { none = p.1; all = refl } }
    seven (cut n f c q) p e = record {
      floor = f;
      in_hand = Some c;
      beyond = p.0;
      writes = record { plan = q; in_hand = p.1; prints = behind (Walked given.job p.1.nodes) (floor_lines f) c q (optimum_reply given (cut n f c q)) p.1.best refl; all = refl };
    }
    seven (optimum n f c q) p e = absurd (omega arith)

    -- which number is said
    planned : (a : PlannerAnswer) → Ending a → (result_of a ≡ 0) ⊎ (result_of a ≡ 7) → HasPlan given.job
    planned no_plan_lem2 p e = ⊎_elim (λ z. absurd (omega (arith, z))) (λ z. absurd (omega (arith, z))) e
    planned (cut_none n f) p e = p.0.has_plan
    planned (cut n f c q) p e = p.0.has_plan
    planned (optimum n f c q) p e = (q, p.keeps)

    number : (a : PlannerAnswer) → Ending a → HasPlan given.job → (result_of a ≡ 0) ⊎ (result_of a ≡ 7)
    number no_plan_lem2 p h = absurd (p h)
    number (cut_none n f) p h = inr refl
    number (cut n f c q) p h = inr refl
    number (optimum n f c q) p h = inl refl

    six : (a : PlannerAnswer) → Ending a → (result_of a ≡ 6) → HasPlan given.job → ⊥
    six no_plan_lem2 p e = p
    six (cut_none n f) p e = absurd (omega arith)
    six (cut n f c q) p e = absurd (omega arith)
    six (optimum n f c q) p e = absurd (omega arith)

    none : (a : PlannerAnswer) → Ending a → (HasPlan given.job → ⊥) → result_of a ≡ 6
    none no_plan_lem2 p h = refl
    none (cut_none n f) p h = absurd (h p.0.has_plan)
    none (cut n f c q) p h = absurd (h p.0.has_plan)
    none (optimum n f c q) p h = absurd (h (q, p.keeps))

-- ---- the promise

module _ (text : List ℕ) (walk room : ℕ) where
  short : room < optimum_room → OptimumPromise text walk room (plainly 8 [])
  short h = record {
    says_8 = (λ e. h, λ e. refl);
    says_6 = (λ e. absurd (omega arith), λ r. absurd (omega (arith, r.0)));
    says_0_or_7 = (λ e. ⊎_elim (λ z. absurd (omega (arith, z))) (λ z. absurd (omega (arith, z))) e, λ r. absurd (omega (arith, r.0)));
    no_fault = λ m r. refl;
    writes_6 = λ e. absurd (omega arith);
    writes_0 = λ r e. absurd (omega arith);
    writes_7 = λ r e. absurd (omega arith);
    as_planner = λ e. absurd (omega arith);
    same = λ r e. absurd (omega arith);
    job_fault = λ m. absurd (omega (arith, m));
  }

  module _ (n l : ℕ) (e : read_job_lem text ≡ refused n l) where
    k : JobFault n
    k = (fault text n l e).0

    unread : {X : Type 0} → JobReading text → X
    unread r = not_both r.is e

    pub promised_refused : OptimumPromise text walk room (lent optimum_room room (refusal 1 text n l))
    promised_refused = with_room (OptimumPromise text walk room) optimum_room room (refusal 1 text n l) short (λ h. record {
      says_8 = (λ f. absurd (fault_else n 8 k (omega arith) (omega arith) f), λ f. absurd (omega arith));
      says_6 = (λ f. absurd (fault_else n 6 k (omega arith) (omega arith) f), λ r. unread r.1.0);
      says_0_or_7 = (λ f. ⊎_elim (λ z. absurd (omega (arith, fault_some n k, z))) (λ z. absurd (fault_else n 7 k (omega arith) (omega arith) z)) f, λ r. unread r.1.0);
      no_fault = λ m r. unread r;
      writes_6 = λ f. absurd (fault_else n 6 k (omega arith) (omega arith) f);
      writes_0 = λ r. unread r;
      writes_7 = λ r. unread r;
      as_planner = λ f. absurd (omega (arith, fault_some n k, f));
      same = λ r. unread r;
      job_fault = λ m i j f. refuses 1 text e f;
    })

  module _ (g : Given) (eg : read_job_lem text ≡ accepted g) (a : PlannerAnswer) (ends : Ends g.job (walk_number_lem walk) a) where
    abbrev here : JobReading text
    here = record { given = g; is = eg }

    abbrev s : Said
    s = optimum_reply g a

    -- what is said of this reading is said of any
    any : (P : Given → Type 0) → P g → (r : JobReading text) → P r.given
    any P p r = subst P (sym (one_value eg r.is)) p

    moved : (P : Given → Type 0) (r : JobReading text) → P r.given → P g
    moved P r p = subst P (one_value eg r.is) p

    pub promised_read : OptimumPromise text walk room (lent optimum_room room (optimum_reply g a))
    promised_read = with_room (OptimumPromise text walk room) optimum_room room s short (λ h. record {
      says_8 = (λ e. absurd (not_8 a e), λ e. absurd (omega arith));
      says_6 = (λ e. (h, (here, six text g eg walk a ends e)), λ r. none text g eg walk a ends (moved (λ x. HasPlan x.job → ⊥) r.1.0 r.1.1));
      says_0_or_7 = (λ e. (h, (here, planned text g eg walk a ends e)), λ r. number text g eg walk a ends (moved (λ x. HasPlan x.job) r.1.0 r.1.1));
      no_fault = λ m r. refl;
      writes_6 = λ e. six_lines g a e;
      writes_0 = λ r e. any (λ x. PrintsBest text x s) (zero text g eg walk a ends e) r;
      writes_7 = λ r e. any (λ x. CutShort text walk x s) (seven text g eg walk a ends e) r;
      as_planner = λ e. planner_same text g eg s (zero text g eg walk a ends e);
      same = λ r e other p. same_bytes text g eg s other (zero text g eg walk a ends e) (moved (λ x. PrintsBest text x other) r p);
      job_fault = λ m i j f. not_both eg f;
    })
