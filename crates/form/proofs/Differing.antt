-- Lists that disagree, or are too long, where the lines before have no fault: 3 on the line of the number that counts them (`idles_out`, `fees_out`, `parts_out`). By those lines, each read at its place.
use Rattle.std.specs.Prelude.{Some, None}
use Prim.Native.Nat.{ℕ, ◌+◌, ◌*◌, ◌≤◌, ◌<◌}
use mathlib.Core.Path.{◌≡◌, refl, sym, ap, ◌∙◌}
use mathlib.Core.Bool.{true, false}
use mathlib.Core.List.{List, [], ◌∷◌, ◌++◌, append_assoc}
use native.Mathlib.Omega.{arith}
use native.Mathlib.Decide.{dec_lt}
use native.Mathlib.Nat.{suc-mul, zero-mul}
use borrow.Author.Tests.{eq-eqb, eqb-true}
use lib.ListN.{length}
use Rattle.lines.specs.Line.{starts_with}
use Rattle.lines.specs.Text.{bytes, line, line_of, texts, optional_text}
use Rattle.lines.specs.Parser.{Parser, good, fault, ◌>>=◌, return, row, row_at, optional, checked, chain, rising}
use Rattle.lines.proofs.Parsing.{bind_good, bind_fault, checked-good, rising_yes, optional_missing}
use Rattle.base.specs.Each.{Chained, All}
use Rattle.lines.proofs.ValueLines.{value_in}
use Rattle.model.specs.Model.{Opening}
use Rattle.model.specs.Windows.{Rising}
use Rattle.job_grammar.specs.Grammar.{idle, idle_steps_lem, idles, opening, openings, body, rest, job_lines}
use Rattle.job_grammar.specs.Rendering.{opening_text}
use Rattle.part_lines.specs.Rendering.{part_text}
use Rattle.job_grammar.specs.Optionals.{idle_lines}
use Rattle.job_grammar.proofs.Accepted.{itself, step_of}
use Rattle.job_grammar.proofs.Complete.{walk_next, openings_next}
use Rattle.form_facts.specs.Facts.{paired, parts_of, fees_agree, parts_agree_lem, PartsAgree, count_of, counted_text}
use Rattle.form_facts.proofs.CountLines.{count_in, count_out}
use Rattle.form_facts.proofs.Facts.{paired_size, agree_says}
use Rattle.form.specs.Form.{Form, idle_count_text, body_of, from_openings, form_text}
use Rattle.form.specs.Promise.{StartFaultless, OpeningsFaultless, openings_line, parts_line, line_after_lem}
use Rattle.form.proofs.IdleLines.{after_none, after_some, text_some, number_there, idles_none, idles_some, steps_in}

-- ---- lines without a fault

-- a step after the one before and within the horizon h
step_in : (key : List ℕ) (h before v : ℕ) → h ≤ 365 → before < v → v ≤ h → (s : List ℕ) (l : ℕ) → checked 4 (rising before h) (row_at key 1 365) (line key v ++ s) l ≡ good v s (l + 1)
step_in key h before v high low most s l =
    checked-good 4 (rising before h) (row_at key 1 365) (line key v ++ s) l (value_in key 1 365 v (omega arith) s l (omega arith) (omega arith)) (rising_yes before h v low most)

-- a chain of things that have k lines each
chain_in : {A : Type 0} (p : ℕ → Parser A) (next : ℕ → A → ℕ) (w : A → List ℕ) (P : ℕ → A → Type 0) (k : ℕ)
    → ((prev : ℕ) (a : A) → P prev a → (s : List ℕ) (l : ℕ) → p prev (w a ++ s) l ≡ good a s (l + k))
    → (prev : ℕ) (xs : List A) → Chained P next prev xs → (s : List ℕ) (l : ℕ) → chain p next (length xs) prev (texts w xs ++ s) l ≡ good xs s (l + length xs * k)
unfolding chain return
chain_in p next w P k c prev [] h s l = let e : l ≡ l + 0 * k = omega (arith, zero-mul k) in ap (good [] s) e
chain_in p next w P k c prev (x ∷ xs) h s l =
    let e : l + k + length xs * k ≡ l + length (x ∷ xs) * k = omega (arith, suc-mul (length xs) k) in
    ap (λ (r : List ℕ). chain p next (length (x ∷ xs)) prev r l) (append_assoc (w x) (texts w xs) s)
    ∙ bind_good (p prev) _ (c prev x h.0 (texts w xs ++ s) l)
    ∙ bind_good (chain p next (length xs) (next prev x)) _ (chain_in p next w P k c (next prev x) xs h.1 s (l + k))
    ∙ ap (good (x ∷ xs) s) e

-- ---- idle steps

-- after the step before, and within the horizon h
abbrev Within : ℕ → ℕ → ℕ → Type 0
Within h before i = (before < i) × (i ≤ h)

idles_chained : (h before : ℕ) (is : List ℕ) → Rising before h is → Chained (Within h) itself before is
idles_chained h before [] r = tt
idles_chained h before (i ∷ is) r = ((r.0, r.1), idles_chained h i is r.2)

-- the lines of the idle steps, from line 2 on
idles_in : (h : ℕ) (is t : List ℕ) → h ≤ 365 → length is ≤ 365 → Rising 0 h is → starts_with (bytes "idles=") t ≡ false
    → idles h (optional_text idle_count_text (idle_lines is) ++ t) 2 ≡ good (idle_lines is) t (line_after_lem (length is))
unfolding idle_steps_lem idle
idles_in h is t high few rise other = go (dec_lt 0 (length is))
  where
    go : Dec (0 < length is) → idles h (optional_text idle_count_text (idle_lines is) ++ t) 2 ≡ good (idle_lines is) t (line_after_lem (length is))
    go (no m) = let e : length is ≡ 0 = omega (arith, m) in idles_none idle_count_text h 2 is t e other ∙ ap (good (idle_lines is) t) (sym (after_none (length is) e))
    go (yes m) =
        let next : 3 + length is * 1 ≡ line_after_lem (length is) = omega (arith, after_some (length is) m) in
        idles_some h 2 is t m (count_in (bytes "idles=") 1 365 (omega arith) true (length is) (texts (line_of "idle=") is ++ t) 2 m few refl)
        ∙ steps_in h (length is) 3 is (texts (line_of "idle=") is ++ t) t (3 + length is * 1) (line_after_lem (length is)) m next
        (chain_in (idle h) itself (line_of "idle=") (Within h) 1 (λ before i k s l. step_in (bytes "idle=") h before i high k.0 k.1 s l) 0 is (idles_chained h 0 is rise) t 3)

-- ---- openings

-- such a step, with a fee that is not too high
abbrev Open : ℕ → ℕ → Opening → Type 0
Open h before o = Within h before o.step × (o.fee ≤ 1000000)

opening_in : (h : ℕ) → h ≤ 365 → (before : ℕ) (o : Opening) → Open h before o → (s : List ℕ) (l : ℕ) → opening h before (opening_text o ++ s) l ≡ good o s (l + 2)
unfolding opening opening_text return
opening_in h high before o k s l =
    let fee = line_of "fee=" o.fee in
    let next : l + 1 + 1 ≡ l + 2 = omega arith in
    ap (λ (t : List ℕ). opening h before t l) (append_assoc (line_of "opening=" o.step) fee s)
    ∙ bind_good (checked 4 (rising before h) (row "opening=" 1 365)) _ (step_in (bytes "opening=") h before o.step high k.0.0 k.0.1 (fee ++ s) l)
    ∙ bind_good (row "fee=" 0 1000000) _ (value_in (bytes "fee=") 0 1000000 o.fee (omega (arith, k.1)) s (l + 1) (omega arith) k.1)
    ∙ ap (good o s) next

paired_chained : (h before : ℕ) (os fs : List ℕ) → Rising before h os → All (λ (fee : ℕ). fee ≤ 1000000) fs → Chained (Open h) step_of before (paired os fs)
unfolding paired
paired_chained h before [] fs r v = tt
paired_chained h before (o ∷ os) [] r v = tt
paired_chained h before (o ∷ os) (f ∷ fs) r v = (((r.0, r.1), v.0), paired_chained h o os fs r.2 v.1)

-- idle steps that are too many
pub idles_out : (f : Form) → 2 ≤ f.horizon → f.horizon ≤ 365 → 365 < length f.idles → job_lines (form_text f) 1 ≡ fault 3 2
unfolding job_lines form_text
idles_out f low high many =
    let after = from_openings f.openings f.fees f.parts in
    let is = optional_text idle_count_text (idle_lines f.idles) in
    let steps = texts (line_of "idle=") f.idles ++ after in
    bind_good (row "horizon=" 2 365) _ (value_in (bytes "horizon=") 2 365 f.horizon (omega (arith, high)) (is ++ after) 1 low high)
    ∙ bind_fault (idles f.horizon) _ (ap (λ (t : List ℕ). idles f.horizon t 2) (text_some f.idles after (omega (arith, many)))
    ∙ number_there f.horizon 2 (count_of 365 true (length f.idles)) steps
    ∙ bind_fault (row "idles=" 1 365 >>= λ v. return (Some v)) _
    (bind_fault (row "idles=" 1 365) _ (count_out (bytes "idles=") 1 365 (omega arith) true (length f.idles) steps 2 (λ some few e. omega (arith, few, many)))))

module _ (f : Form) (start : StartFaultless f) where
  abbrev os : List ℕ
  os = f.openings

  abbrev fs : List ℕ
  fs = f.fees

  abbrev n : ℕ
  n = length f.openings

  -- the lines of the openings and fees, from line l on
  openings_in_lem : OpeningsFaultless f → (s : List ℕ) (l : ℕ) → openings f.horizon n (texts opening_text (paired os fs) ++ s) l ≡ good (paired os fs) s (l + 2 * n)
  unfolding openings
  openings_in_lem known s l =
      let h = f.horizon in
      let size = paired_size os fs known.as_many in
      let next : l + length (paired os fs) * 2 ≡ l + 2 * n = omega (arith, size) in
      ap (λ (k : ℕ). openings h k (texts opening_text (paired os fs) ++ s) l) (sym size)
      ∙ chain_in (opening h) step_of opening_text (Open h) 2 (opening_in h start.horizon_high) 0 (paired os fs) (paired_chained h 0 os fs known.openings known.fees) s l
      ∙ ap (good (paired os fs) s) next

  -- ---- up to the number of openings

  -- the line of that number
  abbrev opening_count_lem : List ℕ
  opening_count_lem = line_of "openings=" (count_of 64 (fees_agree os fs) n)

  start_in : job_lines (form_text f) 1 ≡ (row "openings=" 0 64 >>= body f.horizon (idle_lines f.idles) None) (opening_count_lem ++ body_of os fs f.parts) (openings_line f)
  unfolding job_lines rest form_text from_openings
  start_in =
      let after = opening_count_lem ++ body_of os fs f.parts in
      let is = optional_text idle_count_text (idle_lines f.idles) in
      bind_good (row "horizon=" 2 365) _ (value_in (bytes "horizon=") 2 365 f.horizon (omega (arith, start.horizon_high)) (is ++ after) 1 start.horizon_low start.horizon_high)
      ∙ bind_good (idles f.horizon) _ (idles_in f.horizon f.idles after start.horizon_high start.few_idles start.idles (walk_next None (count_of 64 (fees_agree os fs) n) (body_of os fs f.parts)))
      ∙ bind_good (optional "walk=" 0 4000000000) _ (optional_missing (bytes "walk=") 0 4000000000 after (openings_line f) (openings_next (count_of 64 (fees_agree os fs) n) (body_of os fs f.parts)))

  -- ---- the two numbers

  pub fees_out : (n ≤ 64 → length fs ≡ n → ⊥) → job_lines (form_text f) 1 ≡ fault 3 (openings_line f)
  fees_out differ =
      start_in
      ∙ bind_fault (row "openings=" 0 64) _ (count_out (bytes "openings=") 0 64 (omega arith) (fees_agree os fs) n (body_of os fs f.parts) (openings_line f) (λ low high e. differ high (eqb-true (length fs) n e)))

  pub parts_out : OpeningsFaultless f → (1 ≤ length f.parts.lives → length f.parts.lives ≤ 16 → PartsAgree n f.parts → ⊥) → job_lines (form_text f) 1 ≡ fault 3 (parts_line f)
  unfolding body body_of counted_text
  parts_out known differ =
      let x = f.parts in
      let counted = counted_text n x in
      start_in
      ∙ bind_good (row "openings=" 0 64) _ (count_in (bytes "openings=") 0 64 (omega arith) (fees_agree os fs) n (body_of os fs x) (openings_line f) (omega arith) known.few (eq-eqb (length fs) n known.as_many))
      ∙ bind_good (openings f.horizon n) _ (openings_in_lem known counted (openings_line f + 1))
      ∙ bind_fault (row "parts=" 1 16) _ (count_out (bytes "parts=") 1 16 (omega arith) (parts_agree_lem n x) (length x.lives) (texts part_text (parts_of n x)) (parts_line f) (λ low high e. differ low high (agree_says n x e)))
