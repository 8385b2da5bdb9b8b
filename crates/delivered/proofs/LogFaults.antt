-- A log's faults, over texts: a step out of its range is 3 (`step_3`), plan lines that are left out are 2 (`nothing_2`, `step_alone_2`), and behind a log so far a stop after its step is 9, on its own line (`later_9`). By the grammar's lines, one after the other.
use Prim.Native.Nat.{ℕ, zero, suc, ◌+◌, ◌-◌, ◌^◌, ◌≤◌, ◌<◌}
use mathlib.Core.Path.{◌≡◌, refl, sym, ap, subst, ◌∙◌}
use mathlib.Core.Bool.{Bool, true, false, ◌&&◌}
use mathlib.Core.List.{List, [], ◌∷◌, ◌++◌, append_assoc, append-nil}
use mathlib.Core.Logic.{◌⊎◌, inl, inr}
use native.Mathlib.Omega.{arith}
use native.Mathlib.Decide.{dec_lt}
use lib.Dec.{leb, ltb}
use lib.ListN.{length, take}
use borrow.Author.Tests.{ne_eqb, leb-true}
use Rattle.lines.specs.Line.{starts_with}
use Rattle.lines.specs.Text.{bytes, line, line_of, texts}
use Rattle.lines.specs.Parser.{Parser, good, fault, row, row_at, taken, checked, chain, refused, finish, whole}
use Rattle.lines.proofs.Parsing.{bind_good, bind_fault, checked_not, text_fits}
use Rattle.lines.proofs.Reading.{line_not, field_none, field_low, field_high}
use Rattle.lines.proofs.Back.{line_back}
use Rattle.lines.proofs.Complete.{Complete, row_complete}
use Rattle.lines.proofs.Writing.{line_short}
use Rattle.base.specs.Each.{Chained}
use Rattle.model.specs.Model.{Opening, Job, listed}
use Rattle.model.specs.Windows.{steps_of, open_at}
use Rattle.jobs.specs.Valid.{ValidJob}
use Rattle.plan_grammar.specs.Grammar.{may_stop, visit, visits, plan_lines, max_bytes}
use Rattle.plan_grammar.specs.Rendering.{visit_text, visits_of}
use Rattle.plan_grammar.proofs.Valid.{ValidVisit, ValidVisits}
use Rattle.plan_grammar.proofs.Printed.{visit_complete, visits_valid}
use Rattle.carry.specs.Carry.{Log, count_to, passed, Logged}
use Rattle.log_grammar.specs.Grammar.{past_job_lem, log_lines, read_log}
use Rattle.log_grammar.specs.Rendering.{plan_front}
use Rattle.log_grammar.proofs.Past.{to_valid, front_shaped, same_visits}
use Rattle.log_grammar.proofs.Logs.{few_passed}
use Rattle.delivered.specs.FirstLines.{breaks}
use Rattle.delivered.specs.Terms.{log_front}
use Rattle.delivered.proofs.FirstLines.{no_break, InSpan, breaks_both, line_ends}
use Rattle.delivered.proofs.FirstFaults.{any as every, row_linewise, visit_linewise}

-- ---- a row

-- a value out of its range
row_3 : (key : List ℕ) (lo hi v : ℕ) (s : List ℕ) (l : ℕ) → v < 10 ^ 10 → (v < lo) ⊎ (hi < v) → row_at key lo hi (line key v ++ s) l ≡ fault 3 l
unfolding row_at taken
row_3 key lo hi v s l few out = go (dec_lt v lo) out
  where
    go : Dec (v < lo) → (v < lo) ⊎ (hi < v) → row_at key lo hi (line key v ++ s) l ≡ fault 3 l
    go (yes low) o = ap (taken (line key v ++ s) l) (sym (field_low key (line key v ++ s) lo hi (line_back key v s few) low))
    go (no high) (inl low) = absurd (high low)
    go (no high) (inr above) = ap (taken (line key v ++ s) l) (sym (field_high key (line key v ++ s) lo hi (line_back key v s few) (omega (arith, high)) above))

-- no line
row_2 : (key : List ℕ) (lo hi l : ℕ) → starts_with key [] ≡ false → row_at key lo hi [] l ≡ fault 2 l
unfolding row_at taken
row_2 key lo hi l e = ap (taken [] l) (sym (field_none key [] lo hi (sym (line_not key [] e))))

-- a row that was read ends its line
row_passed : (key : List ℕ) (lo hi v : ℕ) (s : List ℕ) (l k : ℕ) → no_break key ≡ true → row_at key lo hi (line key v ++ s) l ≡ good v s k → k ≡ l + 1
row_passed key lo hi v s l k n e =
    let h : k + breaks s ≡ l + breaks (line key v ++ s) = subst (InSpan (l + breaks (line key v ++ s))) e ((row_linewise every key n lo hi).spans (line key v ++ s) l) in
    omega (arith, h, breaks_both (line key v) s, line_ends key n v)

-- ---- the step

module _ (job : Job) where
  -- a fault of a log's lines is the whole text's
  text_fault : (s : List ℕ) (n l : ℕ) → log_lines job s 1 ≡ fault n l → length s ≤ max_bytes → read_log job s ≡ refused n l
  unfolding whole
  text_fault s n l e few = sym (text_fits max_bytes (log_lines job) s few) ∙ ap finish (bind_fault (log_lines job) _ e)

  -- a step out of its range
  pub step_3 : (step : ℕ) (s : List ℕ) → step < 10 ^ 10 → (step ≡ 0) ⊎ (job.horizon < step + 2) → length (line_of "step=" step ++ s) ≤ max_bytes → read_log job (line_of "step=" step ++ s) ≡ refused 3 1
  unfolding log_lines
  step_3 step s few out = text_fault (line_of "step=" step ++ s) 3 1 (bind_fault (row "step=" 1 (job.horizon - 2)) _ (row_3 (bytes "step=") 1 (job.horizon - 2) step s 1 few (side out)))
    where
      side : (step ≡ 0) ⊎ (job.horizon < step + 2) → (step < 1) ⊎ (job.horizon - 2 < step)
      side (inl z) = inl (omega (arith, z))
      side (inr h) = go (dec_lt step 1)
        where
          go : Dec (step < 1) → (step < 1) ⊎ (job.horizon - 2 < step)
          go (yes z) = inl z
          go (no z) = inr (omega (arith, h, z))

  -- no lines
  pub nothing_2 : read_log job [] ≡ refused 2 1
  unfolding log_lines starts_with bytes
  nothing_2 = text_fault [] 2 1 (bind_fault (row "step=" 1 (job.horizon - 2)) _ (row_2 (bytes "step=") 1 (job.horizon - 2) 1 refl)) (omega arith)

  -- the step's line alone
  pub step_alone_2 : ValidJob job → (step : ℕ) → 1 ≤ step → step + 2 ≤ job.horizon → read_log job (line_of "step=" step) ≡ refused 2 2
  unfolding log_lines plan_lines starts_with bytes
  step_alone_2 ok step low high =
      let a = row_complete (bytes "step=") 1 (job.horizon - 2) (omega (arith, ok.horizon_high)) step (low, omega (arith, high)) [] 1 in
      let k : a.0 ≡ 1 + 1 = row_passed (bytes "step=") 1 (job.horizon - 2) step [] 1 a.0 refl a.1 in
      let z : a.0 ≡ 2 = omega (arith, k) in
      let c = bind_fault (row "cost=" 0 4000000000) _ (row_2 (bytes "cost=") 0 4000000000 a.0 refl) in
      text_fault (line_of "step=" step) 2 2
      (ap (λ (s : List ℕ). log_lines job s 1) (sym (append-nil (line_of "step=" step)))
      ∙ bind_good (row "step=" 1 (job.horizon - 2)) _ a.1 ∙ bind_fault (plan_lines (past_job_lem job step)) _ c ∙ ap (fault 2) z)
      (omega (arith, line_short (bytes "step=") 2 step (omega (arith, high, ok.horizon_high))))

-- ---- a later stop

-- behind values that are read, a fault in the next one's place, whatever the state
chain_fault : {A S : Type 0} (p : S → Parser A) (next : S → A → S) (w : A → List ℕ) (P : S → A → Type 0) → ((k : S) → Complete (p k) w (P k)) → ((k : S) (s : List ℕ) (l : ℕ) → InSpan (l + breaks s) (p k s l))
    → (s : List ℕ) (number : ℕ) → ((k : S) (l : ℕ) → p k s l ≡ fault number l) → (n : ℕ) (k : S) (xs : List A) (l : ℕ) → length xs < n → Chained P next k xs → chain p next n k (texts w xs ++ s) l ≡ fault number (l + breaks (texts w xs))
unfolding chain breaks
chain_fault p next w P back spans s number bad zero k xs l few h = absurd (omega (arith, few))
chain_fault p next w P back spans s number bad (suc n) k [] l few h = let z : l ≡ l + 0 = omega arith in bind_fault (p k) _ (bad k l) ∙ ap (fault number) z
chain_fault {A} p next w P back spans s number bad (suc n) k (x ∷ xs) l few h =
    let rest = texts w xs ++ s in
    let a = back k x h.0 rest l in
    let span : a.0 + breaks rest ≡ l + breaks (w x ++ rest) = subst (InSpan {A = A} (l + breaks (w x ++ rest))) a.1 (spans k (w x ++ rest) l) in
    let b = chain_fault p next w P back spans s number bad n (next k x) xs a.0 (omega (arith, few)) h.1 in
    let z : a.0 + breaks (texts w xs) ≡ l + breaks (w x ++ texts w xs) = omega (arith, span, breaks_both (w x) rest, breaks_both (w x) (texts w xs)) in
    ap (λ (r : List ℕ). chain p next (suc n) k r l) (append_assoc (w x) (texts w xs) s)
    ∙ bind_good (p k) _ a.1 ∙ bind_fault (chain p next n (next k x)) _ b ∙ ap (fault number) z

-- of the openings up to a step none is at a later one
none_later : (step stop : ℕ) (os : List Opening) → step < stop → listed (steps_of (take (count_to step (steps_of os)) os)) stop ≡ false
unfolding listed count_to
none_later step stop [] h = refl
none_later step stop (o ∷ os) h = go (leb o.step step) refl (none_later step stop os h)
  where
    go : (b : Bool) → leb o.step step ≡ b → listed (steps_of (take (count_to step (steps_of os)) os)) stop ≡ false → listed (steps_of (take (count_to step (steps_of (o ∷ os))) (o ∷ os))) stop ≡ false
    go true e rest = rw (count_to, e) (rw (listed, ne_eqb o.step stop (λ z. omega (arith, leb-true o.step step e, z))) rest)
    go false e rest = rw (count_to, e) refl

-- neither is the one and the other
both_not : (b c : Bool) → c ≡ false → (b && c) ≡ false
both_not true c e = e
both_not false c e = refl

module _ (job : Job) (ok : ValidJob job) (log : Log) (l : Logged job log) where
  -- the job with its openings up to the step alone
  abbrev past : Job
  past = past_job_lem job log.step

  -- a stop after the step
  stop_9 : (stop : ℕ) (s : List ℕ) → log.step < stop → stop ≤ 365 → (before at : ℕ) → visit past before (line_of "stop=" stop ++ s) at ≡ fault 9 at
  unfolding visit
  stop_9 stop s later high before at =
      let a = row_complete (bytes "stop=") 1 365 (omega arith) stop (omega (arith, later), high) s at in
      bind_fault (checked 9 (may_stop past before) (row "stop=" 1 365)) _ (checked_not 9 (may_stop past before) (row "stop=" 1 365) _ at a.1 (both_not (ltb before stop) (open_at past stop) (none_later log.step stop job.openings later)))

  -- what is so far a log of the job has valid visits
  visits_known : ValidVisits past (visits_of job log.plan)
  visits_known =
      let n = passed job log.step in
      let fits = few_passed job log.step in
      subst (ValidVisits past) (same_visits n job fits log.plan l.shaped l.stopped) (visits_valid past (to_valid n job fits ok) (plan_front n log.plan) (front_shaped n job fits log.plan l.shaped))

  -- behind them a stop after the step is 9, on its own line
  pub later_9 : (n stop : ℕ) (s : List ℕ) → log.cost ≤ 4000000000 → length (visits_of job log.plan) < n → n ≤ 64 → log.step < stop → stop ≤ 365 → length (log_front job log n ++ (line_of "stop=" stop ++ s)) ≤ max_bytes
      → read_log job (log_front job log n ++ (line_of "stop=" stop ++ s)) ≡ refused 9 (breaks (log_front job log n) + 1)
  unfolding log_lines plan_lines visits bytes
  later_9 n stop s cost more few later high short =
      let vs = texts visit_text (visits_of job log.plan) in
      let rest = line_of "stop=" stop ++ s in
      let one = line_of "step=" log.step in
      let two = line_of "cost=" log.cost in
      let three = line_of "stops=" n in
      let a = row_complete (bytes "step=") 1 (job.horizon - 2) (omega (arith, ok.horizon_high)) log.step (l.step_low, omega (arith, l.step_high)) (two ++ (three ++ (vs ++ rest))) 1 in
      let b = row_complete (bytes "cost=") 0 4000000000 (omega arith) log.cost (omega arith, cost) (three ++ (vs ++ rest)) a.0 in
      let c = row_complete (bytes "stops=") 0 64 (omega arith) n (omega arith, few) (vs ++ rest) b.0 in
      let x = row_passed (bytes "step=") 1 (job.horizon - 2) log.step (two ++ (three ++ (vs ++ rest))) 1 a.0 refl a.1 in
      let y = row_passed (bytes "cost=") 0 4000000000 log.cost (three ++ (vs ++ rest)) a.0 b.0 refl b.1 in
      let w = row_passed (bytes "stops=") 0 64 n (vs ++ rest) b.0 c.0 refl c.1 in
      let d = chain_fault (visit past) (λ _ v. v.step) visit_text (ValidVisit past) (λ before. visit_complete past before (to_valid (passed job log.step) job (few_passed job log.step) ok).few_parts) (λ before. (visit_linewise every past before).spans)
      rest 9 (stop_9 stop s later high) n 0 (visits_of job log.plan) c.0 more visits_known.each in
      let z : c.0 + breaks vs ≡ breaks (log_front job log n) + 1 =
      omega (arith, x, y, w, breaks_both one (two ++ (three ++ vs)), breaks_both two (three ++ vs), breaks_both three vs, line_ends (bytes "step=") refl log.step, line_ends (bytes "cost=") refl log.cost, line_ends (bytes "stops=") refl n) in
      text_fault job (log_front job log n ++ rest) 9 (breaks (log_front job log n) + 1)
      (ap (λ (r : List ℕ). log_lines job r 1) (append_assoc one (two ++ (three ++ vs)) rest ∙ ap (λ (r : List ℕ). one ++ r) (append_assoc two (three ++ vs) rest ∙ ap (λ (r : List ℕ). two ++ r) (append_assoc three vs rest)))
      ∙ bind_good (row "step=" 1 (job.horizon - 2)) _ a.1
      ∙ bind_fault (plan_lines past) _ (bind_good (row "cost=" 0 4000000000) _ b.1 ∙ bind_good (row "stops=" 0 64) _ c.1 ∙ bind_fault (visits past n) _ d) ∙ ap (fault 9) z)
      short
