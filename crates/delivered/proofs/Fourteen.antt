-- A hall's faults, over texts. 14 is said of a job that is valid and does not fit those before it, on that job's first line, whatever stands behind it (`fourteen_line`); and of nothing else (`fourteen_only`). A job's own fault is that of its text, on its line counted through (`own_fault`). By the grammar's forms.
use Prim.Native.Nat.{ℕ, zero, suc, ◌+◌, ◌-◌, ◌≤◌, ◌<◌}
use mathlib.Core.Path.{◌≡◌, refl, sym, ap, ap₂, subst, ◌∙◌}
use mathlib.Core.Bool.{Bool, true, false, ◌&&◌, and-eq-true_iff, false≢true, true≢false}
use mathlib.Core.List.{List, [], ◌∷◌, ◌++◌, map, append_assoc, append-nil}
use mathlib.Core.Logic.{◌⊎◌, inl, inr}
use native.Mathlib.Omega.{arith}
use lib.Dec.{leb, eqb}
use lib.ListN.{length}
use borrow.Author.Tests.{eq-eqb, eqb-true, leb-true, leb-false}
use Rattle.lines.specs.Line.{starts_with}
use Rattle.lines.specs.Text.{bytes, line, line_of, texts}
use Rattle.lines.specs.Parser.{Parsed, good, fault, Parser, ◌>>=◌, return, row, row_at, end as ends, Outcome, accepted, refused, finish, whole}
use Rattle.lines.proofs.Parsing.{bind_good, bind_fault, checked-good, checked_not, checked-fault, text_long, text_fits}
use Rattle.lines.proofs.Sound.{never, row_gives, row_sound, checked_gives, checked_sound}
use Rattle.lines.proofs.Complete.{row_complete}
use Rattle.lines.proofs.Outcomes.{one_fault, not_both}
use Rattle.lines.proofs.Numbered.{NumberIn, row_numbers}
use Rattle.model.specs.Model.{Job}
use Rattle.part_lines.specs.Behind.{BehindParts}
use Rattle.part_lines.proofs.Behind.{behind_all}
use Rattle.job_grammar.specs.Grammar.{JobText, job_lines, max_bytes, read_job_text, meaning, read_job_lem}
use Rattle.job_grammar.specs.Rendering.{job_text_lem}
use Rattle.job_grammar.specs.Faults.{JobFault}
use Rattle.job_grammar.specs.Valid.{ValidText}
use Rattle.job_grammar.proofs.Accepted.{lines_tell as job-tells}
use Rattle.job_grammar.proofs.Complete.{lines_back as job-back}
use Rattle.job_grammar.proofs.Numbered.{lines_numbers as job-numbers}
use Rattle.hall_model.specs.Limits.{most_lines, dearest_call, most_hall_bytes, parts_in, openings_in}
use Rattle.job_grammar.specs.Reading.{meant_job}
use Rattle.hall_grammar.specs.Grammar.{HallText, same_numbers, like_first, room_for, joins, job_behind, jobs_behind, hall_lines_lem, read_hall_text}
use Rattle.hall_grammar.proofs.Accepted.{numbers_same}
use Rattle.delivered.specs.FirstLines.{first_lines, breaks}
use Rattle.delivered.specs.Fourteen.{Unlike, Misfit, Fitting, Front, lines_before, MisfitAt, BehindJobs, FaultIn}
use Rattle.delivered.proofs.FirstLines.{no_break, InSpan, breaks_both, checked_spans, further, Above, Alike}
use Rattle.delivered.proofs.FirstFaults.{any, row_linewise, job_linewise}
use Rattle.delivered.proofs.Apart.{job_apart}

-- ---- what the grammar's test says

-- equal lists are called the same
same_same : (ns : List ℕ) → same_numbers ns ns ≡ true
unfolding same_numbers
same_same [] = refl
same_same (n ∷ ns) = (and-eq-true_iff (eqb n n) (same_numbers ns ns)).1 (eq-eqb n n refl, same_same ns)

-- a misfit does not pass the test
joins_no : (before : List Job) (job : Job) → Misfit before job → joins before job ≡ true → ⊥
joins_no before job (inr (inl h)) e =
    let b = (and-eq-true_iff (like_first before job) (room_for before job)).0 e in
    let c = (and-eq-true_iff (leb (parts_in before + length job.parts) 16) (leb (openings_in before + length job.openings) 64)).0 b.1 in
    let x = leb-true (parts_in before + length job.parts) 16 c.0 in
    omega (arith, h, x)
joins_no before job (inr (inr h)) e =
    let b = (and-eq-true_iff (like_first before job) (room_for before job)).0 e in
    let c = (and-eq-true_iff (leb (parts_in before + length job.parts) 16) (leb (openings_in before + length job.openings) 64)).0 b.1 in
    let x = leb-true (openings_in before + length job.openings) 64 c.1 in
    omega (arith, h, x)
joins_no [] job (inl h) e = h
joins_no (first ∷ before) job (inl h) e = go h
  where
    b : (like_first (first ∷ before) job ≡ true) × (room_for (first ∷ before) job ≡ true)
    b = (and-eq-true_iff (like_first (first ∷ before) job) (room_for (first ∷ before) job)).0 e

    c : (eqb job.horizon first.horizon ≡ true) × (same_numbers job.idles first.idles ≡ true)
    c = (and-eq-true_iff (eqb job.horizon first.horizon) (same_numbers job.idles first.idles)).0 b.0

    go : (job.horizon ≡ first.horizon → ⊥) ⊎ (job.idles ≡ first.idles → ⊥) → ⊥
    go (inl d) = d (eqb-true job.horizon first.horizon c.0)
    go (inr d) = d (numbers_same job.idles first.idles c.1)

-- a job that fails the test of the first job's horizon and idles differs from it in one of them
differs : (before : List Job) (job : Job) → like_first before job ≡ false → Unlike before job
differs [] job e = true≢false e
differs (first ∷ before) job e = go (eqb job.horizon first.horizon) refl (same_numbers job.idles first.idles) refl e
  where
    go : (b : Bool) → eqb job.horizon first.horizon ≡ b → (d : Bool) → same_numbers job.idles first.idles ≡ d → (b && d) ≡ false → Unlike (first ∷ before) job
    go false x d y z = inl (λ h. false≢true (sym x ∙ eq-eqb job.horizon first.horizon h))
    go true x false y z = inr (λ h. false≢true (sym y ∙ ap (λ (is : List ℕ). same_numbers is first.idles) h ∙ same_same first.idles))
    go true x true y z = absurd (true≢false z)

-- a job that fails the test is a misfit
unfit_is : (before : List Job) (job : Job) → joins before job ≡ false → Misfit before job
unfit_is before job e = go (like_first before job) refl (leb (parts_in before + length job.parts) 16) refl (leb (openings_in before + length job.openings) 64) refl e
  where
    go : (b : Bool) → like_first before job ≡ b → (c : Bool) → leb (parts_in before + length job.parts) 16 ≡ c → (d : Bool) → leb (openings_in before + length job.openings) 64 ≡ d → (b && (c && d)) ≡ false → Misfit before job
    go false x c y d z w = inl (differs before job x)
    go true x false y d z w = inr (inl (leb-false (parts_in before + length job.parts) 16 y))
    go true x true y false z w = inr (inr (leb-false (openings_in before + length job.openings) 64 z))
    go true x true y true z w = absurd (true≢false w)

-- a misfit fails the test
joins_not : (before : List Job) (job : Job) → Misfit before job → joins before job ≡ false
joins_not before job h = go (joins before job) refl
  where
    go : (b : Bool) → joins before job ≡ b → b ≡ false
    go true e = absurd (joins_no before job h e)
    go false e = refl

-- a job that is no misfit passes the test
joins_yes : (before : List Job) (job : Job) → (Misfit before job → ⊥) → joins before job ≡ true
joins_yes before job h = go (joins before job) refl
  where
    go : (b : Bool) → joins before job ≡ b → b ≡ true
    go true e = refl
    go false e = absurd (h (unfit_is before job e))

-- ---- how many lines are read

-- a job that was read ends as many lines as its text has
job_ends : (t : JobText) (s : List ℕ) (l k : ℕ) → job_lines (job_text_lem t ++ s) l ≡ good t s k → k ≡ l + breaks (job_text_lem t)
job_ends t s l k e =
    let h : k + breaks s ≡ l + breaks (job_text_lem t ++ s) = subst (InSpan (l + breaks (job_text_lem t ++ s))) e ((job_linewise any).spans (job_text_lem t ++ s) l) in
    omega (arith, h, breaks_both (job_text_lem t) s)

-- a row that was read ends as many lines as its line has
row_ends : (key : List ℕ) (lo hi v : ℕ) (s : List ℕ) (l k : ℕ) → no_break key ≡ true → row_at key lo hi (line key v ++ s) l ≡ good v s k → k ≡ l + breaks (line key v)
row_ends key lo hi v s l k n e =
    let h : k + breaks s ≡ l + breaks (line key v ++ s) = subst (InSpan (l + breaks (line key v ++ s))) e ((row_linewise any key n lo hi).spans (line key v ++ s) l) in
    omega (arith, h, breaks_both (line key v) s)

-- ---- behind jobs that fit

-- what stands behind a job that fits is the next job, which begins with its horizon
next : (u : JobText) (us : List JobText) (s : List ℕ) → BehindJobs (u ∷ us) s → BehindParts u.parts (texts job_text_lem us ++ s)
unfolding starts_with line bytes job_text_lem
next u [] s b = b
next u (v ∷ us) s b = behind_all u.parts _ (record { removal = refl; base = refl })

-- a job may stand behind any others
job_next : (ts : List JobText) (t : JobText) (s : List ℕ) → BehindJobs ts (job_text_lem t ++ s)
unfolding starts_with line bytes job_text_lem
job_next [] t s = tt
job_next (u ∷ []) t s = behind_all u.parts _ (record { removal = refl; base = refl })
job_next (u ∷ v ∷ ts) t s = job_next (v ∷ ts) t s

-- no further line of the last of these is one of the last behind the first
others_next : (u : JobText) (us : List JobText) (s : List ℕ) → BehindJobs (u ∷ us) s → BehindJobs us s
others_next u [] s b = tt
others_next u (v ∷ us) s b = b

-- a fault in the next job's place, behind jobs that fit
jobs_said : (n : ℕ) (before : List Job) (ts : List JobText) (s : List ℕ) (l number at : ℕ) → length ts < n → Fitting before ts → BehindJobs ts s → job_behind (before ++ map meant_job ts) s (l + breaks (texts job_text_lem ts)) ≡ fault number at
    → jobs_behind n before (texts job_text_lem ts ++ s) l ≡ fault number at
unfolding jobs_behind job_behind breaks
jobs_said zero before ts s l number at few f b e = absurd (omega (arith, few))
jobs_said (suc n) before [] s l number at few f b e =
    let z : l + 0 ≡ l = omega arith in
    bind_fault (job_behind before) _ (subst (λ (k : ℕ). job_behind before s k ≡ fault number at) z (subst (λ (js : List Job). job_behind js s (l + 0) ≡ fault number at) (append-nil before) e))
jobs_said (suc n) before (u ∷ us) s l number at few f b e =
    let more = before ++ (meant_job u ∷ []) in
    let rest = texts job_text_lem us ++ s in
    let a = job-back u f.0 rest l (next u us s b) in
    let one = checked-good 14 (λ (x : JobText). joins before (meant_job x)) job_lines (job_text_lem u ++ rest) l a.1 (joins_yes before (meant_job u) f.1) in
    let z : l + breaks (job_text_lem u ++ texts job_text_lem us) ≡ a.0 + breaks (texts job_text_lem us) = omega (arith, job_ends u rest l a.0 a.1, breaks_both (job_text_lem u) (texts job_text_lem us)) in
    let e2 = subst (λ (js : List Job). job_behind js s (l + breaks (job_text_lem u ++ texts job_text_lem us)) ≡ fault number at) (sym (append_assoc before (meant_job u ∷ []) (map meant_job us))) e in
    let d = jobs_said n more us s a.0 number at (omega (arith, few)) f.2 (others_next u us s b) (subst (λ (k : ℕ). job_behind (more ++ map meant_job us) s k ≡ fault number at) z e2) in
    ap (λ (x : List ℕ). jobs_behind (suc n) before x l) (append_assoc (job_text_lem u) (texts job_text_lem us) s)
    ∙ bind_good (job_behind before) _ one ∙ bind_fault (jobs_behind n more) _ d

-- the same behind a hall's first lines
lines_said : (text : List ℕ) (f : Front text) (number at : ℕ) → BehindJobs f.jobs f.behind → job_behind (map meant_job f.jobs) f.behind (1 + lines_before f) ≡ fault number at → hall_lines_lem text 1 ≡ fault number at
unfolding hall_lines_lem bytes
lines_said text f number at b e =
    let ts = texts job_text_lem f.jobs in
    let first = line_of "machines=" f.machines in
    let second = line_of "call=" f.call in
    let a = row_complete (bytes "machines=") 1 most_lines (omega arith) f.machines (f.some, f.few) (second ++ (ts ++ f.behind)) 1 in
    let c = row_complete (bytes "call=") 0 dearest_call (omega arith) f.call (omega arith, f.fair) (ts ++ f.behind) a.0 in
    let x = row_ends (bytes "machines=") 1 most_lines f.machines (second ++ (ts ++ f.behind)) 1 a.0 refl a.1 in
    let y = row_ends (bytes "call=") 0 dearest_call f.call (ts ++ f.behind) a.0 c.0 refl c.1 in
    let z : 1 + lines_before f ≡ c.0 + breaks ts = omega (arith, x, y, breaks_both first (second ++ ts), breaks_both second ts) in
    let d = jobs_said f.machines [] f.jobs f.behind c.0 number at f.further f.fitting b (subst (λ (k : ℕ). job_behind (map meant_job f.jobs) f.behind k ≡ fault number at) z e) in
    ap (λ (s : List ℕ). hall_lines_lem s 1) (f.begins ∙ append_assoc first (second ++ ts) f.behind ∙ ap (λ (s : List ℕ). first ++ s) (append_assoc second ts f.behind))
    ∙ bind_good (row "machines=" 1 most_lines) _ a.1 ∙ bind_good (row "call=" 0 dearest_call) _ c.1 ∙ bind_fault (jobs_behind f.machines []) _ d

-- and of the whole text
text_said : (text : List ℕ) (f : Front text) (number at : ℕ) → BehindJobs f.jobs f.behind → job_behind (map meant_job f.jobs) f.behind (1 + lines_before f) ≡ fault number at → length text ≤ most_hall_bytes → read_hall_text text ≡ refused number at
unfolding whole
text_said text f number at b e few = sym (text_fits most_hall_bytes hall_lines_lem text few) ∙ ap finish (bind_fault hall_lines_lem _ (lines_said text f number at b e))

-- ---- 14 is said of a misfit, on its first line

-- a text of this kind gets 14 on this line
pub fourteen_line : (text : List ℕ) (l : ℕ) → MisfitAt text l → length text ≤ most_hall_bytes → read_hall_text text ≡ refused 14 l
unfolding job_behind
fourteen_line text l m few =
    let f = m.front in
    let before = map meant_job f.jobs in
    let at = 1 + lines_before f in
    let z : at ≡ l = omega (arith, m.here) in
    let a = job-back m.job m.valid m.rest at m.apart in
    let one = checked_not 14 (λ (x : JobText). joins before (meant_job x)) job_lines (job_text_lem m.job ++ m.rest) at a.1 (joins_not before (meant_job m.job) m.unfit) in
    text_said text f 14 l (subst (BehindJobs f.jobs) (sym m.is) (job_next f.jobs m.job m.rest)) (ap (λ (s : List ℕ). job_behind before s at) m.is ∙ one ∙ ap (fault 14) z) few

-- ---- a job's own faults

-- a job text's fault on a line of its job is that of the job's lines
own_lines : (alone : List ℕ) (number at : ℕ) → read_job_lem alone ≡ refused number at → (number ≡ 1 → ⊥) → ((t : JobText) (rest : List ℕ) → ValidText t → alone ≡ job_text_lem t ++ rest → ⊥) → job_lines alone 1 ≡ fault number at
unfolding whole
own_lines alone number at e not-1 inside = go (leb (length alone) max_bytes) refl (job_lines alone 1) refl
  where
    text : (x : Outcome JobText) → read_job_text alone ≡ x → read_job_text alone ≡ refused number at
    text (accepted t) f = not_both (ap meaning f) e
    text (refused i j) f = let y = one_fault (ap meaning f) e in f ∙ ap₂ refused y.0 y.1

    is : read_job_text alone ≡ refused number at
    is = text (read_job_text alone) refl

    go : (b : Bool) → leb (length alone) max_bytes ≡ b → (x : Parsed JobText) → job_lines alone 1 ≡ x → x ≡ fault number at
    go false h x f = let y = one_fault (sym (text_long max_bytes job_lines alone (leb-false (length alone) max_bytes h))) is in absurd (not-1 (sym y.0))
    go true h (good t r k) f = let told = job-tells alone r 1 k t f in absurd (inside t r told.known told.text)
    go true h (fault i k) f =
        let y = one_fault (sym (text_fits max_bytes job_lines alone (leb-true (length alone) max_bytes h)) ∙ ap finish (bind_fault job_lines _ f)) is in
        ap₂ fault y.0 y.1

-- in a hall it is the same fault, on its line counted through
pub own_fault : (text alone : List ℕ) (number at : ℕ) → read_job_lem alone ≡ refused number at → (number ≡ 1 → ⊥) → (f : FaultIn text alone at) → length text ≤ most_hall_bytes → read_hall_text text ≡ refused number (lines_before f.front + at)
unfolding job_behind
own_fault text alone number at e not-1 f few =
    let first = own_lines alone number at e not-1 f.inside in
    let before = lines_before f.front in
    let up : 1 ≤ at = subst (Above 1) first ((job_linewise any).above alone 1) in
    let z : suc at - 1 ≡ at = omega arith in
    let lines = ap (λ (j : ℕ). first_lines j alone) z ∙ sym f.same ∙ ap (λ (j : ℕ). first_lines j f.front.behind) (sym z) in
    let alike : Unit {0} → at < suc at → job_lines f.front.behind 1 ≡ fault number at = subst (λ (r : Parsed JobText). Alike any (suc at) r (job_lines f.front.behind 1)) first ((job_linewise any).alike (suc at) alone f.front.behind 1 (omega (arith, up)) lines) in
    let here : job_lines f.front.behind (1 + before) ≡ fault number (at + before) = (job_linewise any).counts f.front.behind 1 before ∙ ap (further before) (alike tt (omega arith)) in
    let w : at + before ≡ before + at = omega arith in
    text_said text f.front number (before + at) f.apart (checked-fault 14 (λ (x : JobText). joins (map meant_job f.front.jobs) (meant_job x)) job_lines f.front.behind (1 + before) here ∙ ap (fault number) w) few

-- ---- and of nothing else

-- a first parser's value, behind which a second is at fault
record Passed {A B : Type 0} (p : Parser A) (f : A → Parser B) (s : List ℕ) (l n m : ℕ) : Type 0 where
  value : A
  left : List ℕ
  at : ℕ
  first : p s l ≡ good value left at
  second : f value left at ≡ fault n m

-- a fault of two parsers is the first's, or the second's behind a value
bind_faulted : {A B : Type 0} (p : Parser A) (f : A → Parser B) (s : List ℕ) (l n m : ℕ) → (p >>= f) s l ≡ fault n m → (p s l ≡ fault n m) ⊎ Passed p f s l n m
bind_faulted {A} {B} p f s l n m e = go (p s l) refl
  where
    go : (x : Parsed A) → p s l ≡ x → (p s l ≡ fault n m) ⊎ Passed p f s l n m
    go (good a r k) x = inr (record { value = a; left = r; at = k; first = x; second = sym (bind_good p f x) ∙ e })
    go (fault i j) x =
        let y : ◌≡◌ {A = Parsed B} (fault i j) (fault n m) = sym (bind_fault p f x) ∙ e in
        let u : i ≡ n = cc in
        let w : j ≡ m = cc in
        inl (x ∙ ap₂ fault u w)

-- a number that is not 14
abbrev other : ℕ → Type 0
other n = n ≡ 14 → ⊥

-- a row's fault is never 14
row_other : {X : Type 0} (key : List ℕ) (lo hi : ℕ) (s : List ℕ) (l m : ℕ) → row_at key lo hi s l ≡ fault 14 m → X
row_other key lo hi s l m e = absurd ((subst (NumberIn other (length s) l) e (row_numbers other (λ h. omega (arith, h)) (λ h. omega (arith, h)) key lo hi s l)).0 refl)

-- a job's own fault is never 14
job_other : {X : Type 0} (s : List ℕ) (l m : ℕ) → job_lines s l ≡ fault 14 m → X
job_other s l m e = absurd (go (subst (NumberIn JobFault (length s) l) e (job-numbers s l)).0)
  where
    go : JobFault 14 → ⊥
    go (inl h) = omega (arith, h.1)
    go (inr h) = omega (arith, h.1)

-- the fault at a text's end is never 14
end_other : {X : Type 0} (s : List ℕ) (l m : ℕ) → ends s l ≡ fault 14 m → X
unfolding ends
end_other [] l m e = never (sym e)
end_other (b ∷ s) l m e = let z : ◌≡◌ {A = ℕ} 2 14 = cc in absurd (omega (arith, z))

-- what a 14 behind these jobs says of the text that is read from line l on
record Found (n : ℕ) (before : List Job) (s : List ℕ) (l m : ℕ) : Type 0 where
  jobs : List JobText
  job : JobText
  rest : List ℕ
  further : length jobs < n
  fitting : Fitting before jobs
  valid : ValidText job
  unfit : Misfit (before ++ map meant_job jobs) (meant_job job)
  apart : BehindParts job.parts rest
  begins : s ≡ texts job_text_lem jobs ++ (job_text_lem job ++ rest)
  here : m ≡ l + breaks (texts job_text_lem jobs)

-- the next job is the misfit
found_next : (n : ℕ) (before : List Job) (s : List ℕ) (l m : ℕ) → job_behind before s l ≡ fault 14 m → Found (suc n) before s l m
unfolding job_behind breaks
found_next n before s l m e = go (job_lines s l) refl
  where
    ok : JobText → Bool
    ok = λ t. joins before (meant_job t)

    pick : (t : JobText) (r : List ℕ) (k : ℕ) → job_lines s l ≡ good t r k → (b : Bool) → joins before (meant_job t) ≡ b → Found (suc n) before s l m
    pick t r k x true z = never (sym e ∙ checked-good 14 ok job_lines s l x z)
    pick t r k x false z =
        let y : ◌≡◌ {A = Parsed JobText} (fault 14 l) (fault 14 m) = sym (checked_not 14 ok job_lines s l x z) ∙ e in
        let w : l ≡ m = cc in
        let told = job-tells s r l k t x in
        let unfit = subst (λ (js : List Job). Misfit js (meant_job t)) (sym (append-nil before)) (unfit_is before (meant_job t) z) in
        record { jobs = []; job = t; rest = r; further = omega arith; fitting = tt; valid = told.known; unfit = unfit; apart = job_apart s r l k t x; begins = told.text; here = omega (arith, w) }

    go : (x : Parsed JobText) → job_lines s l ≡ x → Found (suc n) before s l m
    go (good t r k) x = pick t r k x (joins before (meant_job t)) refl
    go (fault i j) x = let y : ◌≡◌ {A = Parsed JobText} (fault i j) (fault 14 m) = sym (checked-fault 14 ok job_lines s l x) ∙ e in job_other s l m (x ∙ y)

-- the next job fits, and the misfit is behind it
found_further : (n : ℕ) (before : List Job) (s : List ℕ) (l m : ℕ) (t : JobText) (r : List ℕ) (k : ℕ) → job_behind before s l ≡ good t r k → Found n (before ++ (meant_job t ∷ [])) r k m → Found (suc n) before s l m
unfolding job_behind
found_further n before s l m t r k e f =
    let ok : JobText → Bool = λ t. joins before (meant_job t) in
    let ts = texts job_text_lem f.jobs in
    let gives = checked_gives 14 ok job_lines ValidText (λ s s' l l' t e. (job-tells s s' l l' t e).known) s r l k t e in
    let text = checked_sound 14 ok job_lines job_text_lem (λ s s' l l' t e. (job-tells s s' l l' t e).text) s r l k t e in
    let span : k + breaks r ≡ l + breaks s = subst (InSpan (l + breaks s)) e (checked_spans 14 ok job_lines (job_linewise any).spans s l) in
    record {
      jobs = t ∷ f.jobs;
      job = f.job;
      rest = f.rest;
      further = omega (arith, f.further);
      fitting = (gives.0, λ h. joins_no before (meant_job t) h gives.1, f.fitting);
      valid = f.valid;
      unfit = subst (λ (js : List Job). Misfit js (meant_job f.job)) (append_assoc before (meant_job t ∷ []) (map meant_job f.jobs)) f.unfit;
      apart = f.apart;
      begins = text ∙ ap (λ (q : List ℕ). job_text_lem t ++ q) f.begins ∙ sym (append_assoc (job_text_lem t) ts (job_text_lem f.job ++ f.rest));
      here = omega (arith, f.here, span, ap breaks text, breaks_both (job_text_lem t) r, breaks_both (job_text_lem t) ts);
    }

-- a 14 of some jobs
jobs_found : (n : ℕ) (before : List Job) (s : List ℕ) (l m : ℕ) → jobs_behind n before s l ≡ fault 14 m → Found n before s l m
unfolding jobs_behind return
jobs_found zero before s l m e = never (sym e)
jobs_found (suc n) before s l m e = go (bind_faulted (job_behind before) _ s l 14 m e) (λ more r k d. jobs_found n more r k m d)
  where
    back : (t : JobText) → Parser (List JobText)
    back t = jobs_behind n (before ++ (meant_job t ∷ [])) >>= λ ts. return (t ∷ ts)

    go : (job_behind before s l ≡ fault 14 m) ⊎ Passed (job_behind before) back s l 14 m → ((more : List Job) (r : List ℕ) (k : ℕ) → jobs_behind n more r k ≡ fault 14 m → Found n more r k m) → Found (suc n) before s l m
    go (inl d) found = found_next n before s l m d
    go (inr p) found = further (bind_faulted (jobs_behind n more) (λ ts. return (p.value ∷ ts)) p.left p.at 14 m p.second)
      where
        more : List Job
        more = before ++ (meant_job p.value ∷ [])

        further : (jobs_behind n more p.left p.at ≡ fault 14 m) ⊎ Passed (jobs_behind n more) (λ ts. return (p.value ∷ ts)) p.left p.at 14 m → Found (suc n) before s l m
        further (inl d) = found_further n before s l m p.value p.left p.at p.first (found more p.left p.at d)
        further (inr q) = never (sym q.second)

-- a hall's jobs behind its first lines
lines_there : (text : List ℕ) (l machines call : ℕ) (s r : List ℕ) (k i : ℕ) → row "machines=" 1 most_lines text 1 ≡ good machines s k → row "call=" 0 dearest_call s k ≡ good call r i → Found machines [] r i l → MisfitAt text l
unfolding bytes
lines_there text l machines call s r k i e d f =
    let ts = texts job_text_lem f.jobs in
    let back = job_text_lem f.job ++ f.rest in
    let first = line_of "machines=" machines in
    let second = line_of "call=" call in
    let few = row_gives (bytes "machines=") 1 most_lines text s 1 k machines e in
    let fair = row_gives (bytes "call=") 0 dearest_call s r k i call d in
    let x = row_sound (bytes "machines=") 1 most_lines text s 1 k machines e in
    let y = row_sound (bytes "call=") 0 dearest_call s r k i call d in
    let span : k + breaks s ≡ 1 + breaks text = subst (InSpan (1 + breaks text)) e ((row_linewise any (bytes "machines=") refl 1 most_lines).spans text 1) in
    let span2 : i + breaks r ≡ k + breaks s = subst (InSpan (k + breaks s)) d ((row_linewise any (bytes "call=") refl 0 dearest_call).spans s k) in
    record {
      front = record {
        machines = machines;
        call = call;
        jobs = f.jobs;
        behind = back;
        some = few.0;
        few = few.1;
        fair = fair.1;
        further = f.further;
        fitting = f.fitting;
        begins = x ∙ ap (λ (q : List ℕ). first ++ q) (y ∙ ap (λ (q : List ℕ). second ++ q) f.begins) ∙ sym (append_assoc first (second ++ ts) back ∙ ap (λ (q : List ℕ). first ++ q) (append_assoc second ts back));
      };
      job = f.job;
      rest = f.rest;
      valid = f.valid;
      unfit = f.unfit;
      is = refl;
      apart = f.apart;
      here = omega (arith, f.here, span, span2, ap breaks x, ap breaks y, breaks_both first s, breaks_both second r, breaks_both first (second ++ ts), breaks_both second ts);
    }

-- a 14 of a hall's lines
lines_found : (text : List ℕ) (l : ℕ) → hall_lines_lem text 1 ≡ fault 14 l → MisfitAt text l
unfolding hall_lines_lem return
lines_found text l e = go (bind_faulted (row "machines=" 1 most_lines) _ text 1 14 l e)
  where
    third : (n c : ℕ) → Parser HallText
    third n c = jobs_behind n [] >>= λ ts. return (record { call = c; jobs = ts })

    second : (n : ℕ) → Parser HallText
    second n = row "call=" 0 dearest_call >>= third n

    jobs_at : (p : Passed {B = HallText} (row "machines=" 1 most_lines) second text 1 14 l) (q : Passed (row "call=" 0 dearest_call) (third p.value) p.left p.at 14 l)
        → (jobs_behind p.value [] q.left q.at ≡ fault 14 l) ⊎ Passed {B = HallText} (jobs_behind p.value []) (λ ts. return (record { call = q.value; jobs = ts })) q.left q.at 14 l → MisfitAt text l
    jobs_at p q (inl d) = lines_there text l p.value q.value p.left q.left p.at q.at p.first q.first (jobs_found p.value [] q.left q.at l d)
    jobs_at p q (inr w) = never (sym w.second)

    call_at : (p : Passed {B = HallText} (row "machines=" 1 most_lines) second text 1 14 l) → (row "call=" 0 dearest_call p.left p.at ≡ fault 14 l) ⊎ Passed (row "call=" 0 dearest_call) (third p.value) p.left p.at 14 l → MisfitAt text l
    call_at p (inl d) = row_other (bytes "call=") 0 dearest_call p.left p.at l d
    call_at p (inr q) = jobs_at p q (bind_faulted {B = HallText} (jobs_behind p.value []) (λ ts. return (record { call = q.value; jobs = ts })) q.left q.at 14 l q.second)

    go : (row "machines=" 1 most_lines text 1 ≡ fault 14 l) ⊎ Passed {B = HallText} (row "machines=" 1 most_lines) second text 1 14 l → MisfitAt text l
    go (inl d) = row_other (bytes "machines=") 1 most_lines text 1 l d
    go (inr p) = call_at p (bind_faulted (row "call=" 0 dearest_call) (third p.value) p.left p.at 14 l p.second)

-- a 14 of a whole text
whole_found : (text : List ℕ) (l : ℕ) → whole hall_lines_lem text 1 ≡ fault 14 l → MisfitAt text l
unfolding whole return
whole_found text l e = go (bind_faulted hall_lines_lem _ text 1 14 l e)
  where
    ended : (t : HallText) → Parser HallText
    ended t = ends >>= λ u. return t

    go : (hall_lines_lem text 1 ≡ fault 14 l) ⊎ Passed hall_lines_lem ended text 1 14 l → MisfitAt text l
    go (inl d) = lines_found text l d
    go (inr p) = last (bind_faulted ends (λ u. return p.value) p.left p.at 14 l p.second)
      where
        last : (ends p.left p.at ≡ fault 14 l) ⊎ Passed ends (λ u. return p.value) p.left p.at 14 l → MisfitAt text l
        last (inl d) = end_other p.left p.at l d
        last (inr q) = never (sym q.second)

-- a text that gets 14 is of this kind, and its line is this
pub fourteen_only : (text : List ℕ) (l : ℕ) → read_hall_text text ≡ refused 14 l → MisfitAt text l
fourteen_only text l e = go (leb (length text) most_hall_bytes) refl
  where
    done : (x : Parsed HallText) → whole hall_lines_lem text 1 ≡ x → finish x ≡ refused 14 l → MisfitAt text l
    done (good t r k) x f = not_both refl f
    done (fault i k) x f = let y = one_fault refl f in whole_found text l (x ∙ ap₂ fault y.0 y.1)

    go : (b : Bool) → leb (length text) most_hall_bytes ≡ b → MisfitAt text l
    go true h = done (whole hall_lines_lem text 1) refl (text_fits most_hall_bytes hall_lines_lem text (leb-true (length text) most_hall_bytes h) ∙ e)
    go false h = let y = one_fault e (sym (text_long most_hall_bytes hall_lines_lem text (leb-false (length text) most_hall_bytes h))) in absurd (omega (arith, y.0))
