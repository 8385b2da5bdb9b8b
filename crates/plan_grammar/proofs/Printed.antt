-- The lines of a plan are read back as that plan, for a valid job (`read_back`): the plan's visits are valid, valid visits are read back, and they make the plan.
use Prim.Native.Nat.{ℕ, zero, suc, ◌+◌, ◌≤◌, ◌<◌}
use mathlib.Core.Path.{◌≡◌, sym, ap, ◌∙◌, subst}
use mathlib.Core.List.{List, [], ◌∷◌, ◌++◌, append_assoc, append-nil}
use mathlib.Core.Bool.{Bool, true, false, cond}
use native.Mathlib.Omega.{arith}
use borrow.Author.Tests.{eq-eqb, lt-ltb}
use lib.Dec.{eqb}
use lib.ListN.{length, get_or}
use Rattle.lines.specs.Text.{bytes, line, line_of, texts}
use Rattle.base.specs.Joined.{joined}
use Rattle.lines.specs.Parser.{good, accepted, return, row, checked, rising}
use Rattle.lines.proofs.Parsing.{bind_good, rising_yes}
use Rattle.base.specs.Each.{Chained}
use Rattle.lines.proofs.Complete.{Complete, row_complete, checked_complete, chain_complete, text_complete}
use Rattle.model.specs.Model.{Opening, Job, Plan}
use Rattle.model.specs.Windows.{open_at}
use Rattle.model.specs.Verdict.{Shaped}
use Rattle.jobs.specs.Valid.{ValidJob}
use Rattle.plan_grammar.specs.Grammar.{Visit, may_stop, part, parts, visit, visits, plan_of, plan_lines, max_bytes, read_plan_lem}
use Rattle.base.specs.Chosen.{chosen}
use Rattle.plan_grammar.specs.Rendering.{visit_text, plan_text_lem, is_changed_lem, parts_at, step_at, visit_at, visits_of, plan_lines_of}
use Rattle.plan_grammar.proofs.Lists.{any_at}
use Rattle.plan_grammar.proofs.Nothing.{read_lines}
use Rattle.base.proofs.Chosen.{chosen_few, chosen_front}
use Rattle.plan_grammar.proofs.Valid.{ValidPart, ValidParts, ValidVisit, ValidVisits, step_of}
use Rattle.plan_grammar.proofs.Steps.{no_opening, step_is, open_any, step_low, step_high, step_rises}
use Rattle.plan_grammar.proofs.Lengths.{valid_short}
use Rattle.plan_grammar.proofs.Back.{plan_back}

-- ---- valid visits are read back

part_complete : (m before : ℕ) → m ≤ 16 → Complete (part m before) (line_of "part=") (ValidPart m before)
unfolding part
part_complete m before few k v s l =
    checked_complete 9 (rising before m) (row "part=" 1 16) (line_of "part=") _ (row_complete _ 1 16 (omega arith)) k ((omega arith, omega arith), rising_yes before m k v.0 v.1) s l

-- a valid visit's lines are read back, with anything behind them
pub visit_complete : (job : Job) (before : ℕ) → length job.parts ≤ 16 → Complete (visit job before) visit_text (ValidVisit job before)
unfolding visit parts return visit_text
visit_complete job before few v ok s l =
    let m = length job.parts in
    let stop = checked 9 (may_stop job before) (row "stop=" 1 365) in
    let ks = texts (line_of "part=") v.parts in
    let n = line_of "count=" (length v.parts) in
    let may : may_stop job before v.step ≡ true = rw (lt-ltb before v.step ok.later) ok.opening in
    let a = checked_complete 9 (may_stop job before) (row "stop=" 1 365) (line_of "stop=") _ (row_complete _ 1 365 (omega arith)) v.step ((omega (arith, ok.later), ok.high), may) (n ++ (ks ++ s)) l in
    let b = row_complete (bytes "count=") 0 16 (omega arith) (length v.parts) (omega arith, ok.few) (ks ++ s) a.0 in
    let c = chain_complete (part m) (λ _ k. k) (line_of "part=") (ValidPart m) (λ before. part_complete m before few) 0 v.parts ok.parts s b.0 in (
      c.0,
      ap (λ (r : List ℕ). visit job before r l) (append_assoc (line_of "stop=" v.step ++ n) ks s ∙ append_assoc (line_of "stop=" v.step) n (ks ++ s))
          ∙ bind_good stop _ a.1 ∙ bind_good (row "count=" 0 16) _ b.1 ∙ bind_good (parts m (length v.parts)) _ c.1,
    )

lines_complete : (job : Job) (cost : ℕ) (vs : List Visit) → length job.parts ≤ 16 → cost ≤ 4000000000 → ValidVisits job vs → (s : List ℕ) (l : ℕ)
    → (l' : ℕ) × (plan_lines job (plan_text_lem cost vs ++ s) l ≡ good (record { cost = cost; plan = plan_of job vs }) s l')
unfolding plan_lines visits return plan_text_lem
lines_complete job cost vs few h ok s l =
    let ts = texts visit_text vs in
    let n = line_of "stops=" (length vs) in
    let a = row_complete (bytes "cost=") 0 4000000000 (omega arith) cost (omega arith, h) (n ++ (ts ++ s)) l in
    let b = row_complete (bytes "stops=") 0 64 (omega arith) (length vs) (omega arith, ok.few) (ts ++ s) a.0 in
    let c = chain_complete (visit job) (λ _. step_of) visit_text (ValidVisit job) (λ before. visit_complete job before few) 0 vs ok.each s b.0 in (
      c.0,
      ap (λ (r : List ℕ). plan_lines job r l) (append_assoc (line_of "cost=" cost ++ n) ts s ∙ append_assoc (line_of "cost=" cost) n (ts ++ s))
          ∙ bind_good (row "cost=" 0 4000000000) _ a.1 ∙ bind_good (row "stops=" 0 64) _ b.1 ∙ bind_good (visits job (length vs)) _ c.1,
    )

-- ---- a plan's visits are valid

-- what is chosen in rising order rises
chosen_chained : {A : Type 0} (P : ℕ → A → Type 0) (key : A → ℕ) (n : ℕ) (test : ℕ → Bool) (f : ℕ → A) (before : ℕ)
    → ((i j : ℕ) → i < j → j < n → key (f i) < key (f j)) → ((i : ℕ) → i < n → before < key (f i)) → ((i b : ℕ) → i < n → b < key (f i) → P b (f i))
    → Chained P (λ _. key) before (chosen test f n)
unfolding chosen joined
chosen_chained P key zero test f before rise low each = tt
chosen_chained {A} P key (suc n) test f before rise low each =
    subst (Chained P (λ _. key) before) (sym (chosen_front test f n))
    (go (test 0)
    (chosen_chained P key n (λ i. test (suc i)) (λ i. f (suc i)) (key (f 0)) rise' (λ i h. rise 0 (suc i) (omega arith) (omega arith)) each')
    (chosen_chained P key n (λ i. test (suc i)) (λ i. f (suc i)) before rise' (λ i h. low (suc i) (omega arith)) each'))
  where
    rise' : (i j : ℕ) → i < j → j < n → key (f (suc i)) < key (f (suc j))
    rise' i j k l = rise (suc i) (suc j) (omega arith) (omega arith)

    each' : (i b : ℕ) → i < n → b < key (f (suc i)) → P b (f (suc i))
    each' i b h l = each (suc i) b (omega arith) l

    rest : List A
    rest = chosen (λ i. test (suc i)) (λ i. f (suc i)) n

    go : (b : Bool) → Chained P (λ _. key) (key (f 0)) rest → Chained P (λ _. key) before rest → Chained P (λ _. key) before (cond b (f 0 ∷ []) [] ++ rest)
    go true after skip = (each 0 before (omega arith) (low 0 (omega arith)), after)
    go false after skip = skip

-- the job is open at the step of each of its openings
step_open : (job : Job) (i : ℕ) → i < length job.openings → open_at job (step_at job i) ≡ true
step_open job i h = open_any job.openings (step_at job i) ∙ any_at (λ (o : Opening). eqb o.step (step_at job i)) job.openings no_opening i h (eq-eqb _ (step_at job i) (sym (step_is job i)))

-- the visits of a plan of a valid job's shape are valid visits
pub visits_valid : (job : Job) → ValidJob job → (plan : Plan) → Shaped job plan → ValidVisits job (visits_of job plan)
unfolding visits_of
visits_valid job ok plan shape = record {
  few = omega (arith, ok.few_openings, chosen_few stop (visit_at job plan) (length job.openings));
  each = chosen_chained (ValidVisit job) step_of (length job.openings) stop (visit_at job plan) 0 (step_rises job ok) (step_low job ok) (λ i b h l. record {
    later = l;
    high = step_high job ok i h;
    opening = step_open job i h;
    few = omega (arith, ok.few_parts, shape.parts, chosen_few (is_changed_lem plan i) (λ (k : ℕ). k + 1) (length plan.changes));
    parts = parts i;
  });
}
  where
    stop : ℕ → Bool
    stop i = get_or plan.stops i false

    parts : (i : ℕ) → ValidParts (length job.parts) (parts_at plan i)
    parts i = chosen_chained (ValidPart (length job.parts)) (λ (k : ℕ). k) (length plan.changes) (is_changed_lem plan i) (λ k. k + 1) 0 (λ i j h l. omega arith) (λ k h. omega arith) (λ k b h l. (l, omega (arith, shape.parts)))

-- ---- the plan

-- with anything behind its lines
pub lines_back : (job : Job) → ValidJob job → (cost : ℕ) (plan : Plan) → cost ≤ 4000000000 → Shaped job plan → (s : List ℕ) (l : ℕ)
    → (l' : ℕ) × (plan_lines job (plan_lines_of job cost plan ++ s) l ≡ good (record { cost = cost; plan = plan }) s l')
unfolding plan_lines_of
lines_back job ok cost plan h shape s l =
    let r = lines_complete job cost (visits_of job plan) ok.few_parts h (visits_valid job ok plan shape) s l in
    (r.0, r.1 ∙ ap (λ (p : Plan). good (record { cost = cost; plan = p }) s r.0) (plan_back job ok plan shape))

-- it is not empty
some_bytes : (job : Job) (cost : ℕ) (plan : Plan) → 1 ≤ length (plan_lines_of job cost plan)
unfolding plan_lines_of plan_text_lem line bytes
some_bytes job cost plan = omega arith

-- the text of a plan with its cost is read as this plan and cost
pub read_back : (job : Job) → ValidJob job → (cost : ℕ) (plan : Plan) → cost ≤ 4000000000 → Shaped job plan → read_plan_lem job (plan_lines_of job cost plan) ≡ accepted (record { cost = cost; plan = plan })
read_back job ok cost plan h shape =
    let r = lines_back job ok cost plan h shape [] 1 in
    sym (read_lines job (plan_lines_of job cost plan) (some_bytes job cost plan))
    ∙ text_complete max_bytes (plan_lines job) (plan_lines_of job cost plan) _ r.0
    (omega (arith, valid_short job ok cost plan (omega arith) (omega (arith, ok.few_parts, shape.parts))))
    (ap (λ (t : List ℕ). plan_lines job t 1) (sym (append-nil (plan_lines_of job cost plan))) ∙ r.1)
