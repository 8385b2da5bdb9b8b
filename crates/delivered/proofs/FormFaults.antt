-- The faults of a form's earlier lines come first (`start_first`, `openings_first`): the text that it makes has these lines whatever the lists behind them say. By "first bad line".
use Prim.Native.Nat.{ℕ, zero, suc, ◌+◌, ◌*◌, ◌≤◌, ◌<◌}
use mathlib.Core.Path.{◌≡◌, refl, sym, ap, ap₂, ◌∙◌}
use mathlib.Core.Bool.{Bool, true, false}
use mathlib.Core.List.{List, [], ◌∷◌, ◌++◌, append_assoc}
use native.Mathlib.Omega.{arith}
use lib.Dec.{eqb}
use lib.ListN.{length}
use borrow.Author.Tests.{ne_eqb}
use Rattle.lines.specs.Text.{bytes, line, line_of, texts, optional_text}
use Rattle.lines.specs.Parser.{refused}
use Rattle.lines.proofs.Parsing.{text_fits}
use Rattle.model.specs.Limits.{last_step, most_openings}
use Rattle.job_grammar.specs.Grammar.{job_lines}
use Rattle.job_grammar.specs.Optionals.{idle_lines}
use Rattle.job_grammar.specs.Rendering.{opening_text}
use Rattle.form_facts.specs.Facts.{paired, fees_agree, count_of, counted_text}
use Rattle.form.specs.Form.{Form, idle_count_text, body_of, from_openings, form_text, read_form}
use Rattle.form.specs.Promise.{openings_line, parts_line}
use Rattle.delivered.specs.FirstLines.{first_lines, breaks}
use Rattle.delivered.proofs.FirstLines.{no_break, breaks_both, line_ends}
use Rattle.delivered.proofs.FirstFaults.{any, text_first, job_linewise}

-- the first lines of a text are those of what it begins with
first_same : (m : ℕ) (a x y : List ℕ) → m ≤ breaks a → first_lines m (a ++ x) ≡ first_lines m (a ++ y)
unfolding first_lines breaks
first_same zero a x y h = refl
first_same (suc m) [] x y h = absurd (omega (arith, h))
first_same (suc m) (b ∷ a) x y h = go (eqb b 10) refl (first_same m a x y) (first_same (suc m) a x y)
  where
    go : (t : Bool) → eqb b 10 ≡ t → (m ≤ breaks a → first_lines m (a ++ x) ≡ first_lines m (a ++ y)) → (suc m ≤ breaks a → first_lines (suc m) (a ++ x) ≡ first_lines (suc m) (a ++ y)) → first_lines (suc m) ((b ∷ a) ++ x) ≡ first_lines (suc m) ((b ∷ a) ++ y)
    go true e fewer same = let k = rw e at h in rw (first_lines, e) (ap (λ (l : List ℕ). b ∷ l) (fewer (omega (arith, k))))
    go false e fewer same = let k = rw e at h in rw (first_lines, e) (ap (λ (l : List ℕ). b ∷ l) (same (omega (arith, k))))

-- one line for each number
numbers_end : (key : List ℕ) → no_break key ≡ true → (vs : List ℕ) → breaks (texts (line key) vs) ≡ length vs
unfolding breaks
numbers_end key n [] = refl
numbers_end key n (v ∷ vs) = omega (arith, breaks_both (line key v) (texts (line key) vs), line_ends key n v, numbers_end key n vs)

-- two lines for each opening
openings_end : (os fs : List ℕ) → length fs ≡ length os → breaks (texts opening_text (paired os fs)) ≡ 2 * length os
unfolding breaks paired opening_text bytes
openings_end [] fs e = refl
openings_end (o ∷ os) [] e = absurd (omega (arith, e))
openings_end (o ∷ os) (f ∷ fs) e =
    omega (
      arith,
      breaks_both (line_of "opening=" o ++ line_of "fee=" f) (texts opening_text (paired os fs)),
      breaks_both (line_of "opening=" o) (line_of "fee=" f),
      line_ends (bytes "opening=") refl o,
      line_ends (bytes "fee=") refl f,
      openings_end os fs (omega (arith, e)),
    )

-- ---- the lines before the number of openings

start : ℕ → List ℕ → List ℕ
start h is = line_of "horizon=" h ++ optional_text idle_count_text (idle_lines is)

start_ends : (h : ℕ) (is : List ℕ) (f : Form) → f.idles ≡ is → breaks (start h is) + 1 ≡ openings_line f
unfolding start idle_lines idle_count_text breaks bytes
start_ends h [] f e = rw e (omega (arith, breaks_both (line_of "horizon=" h) [], line_ends (bytes "horizon=") refl h))
start_ends h (i ∷ is) f e =
    let n = line_of "idles=" (count_of last_step true (length (i ∷ is))) in
    let some = texts (line_of "idle=") (i ∷ is) in
    rw (e, ne_eqb (suc (length is)) 0 (λ z. omega (arith, z)))
    (omega (
      arith,
      breaks_both (line_of "horizon=" h) (n ++ some),
      line_ends (bytes "horizon=") refl h,
      breaks_both n some,
      line_ends (bytes "idles=") refl (count_of last_step true (length (i ∷ is))),
      numbers_end (bytes "idle=") refl (i ∷ is),
    ))

-- the form's text from them on
started : (f : Form) → form_text f ≡ start f.horizon f.idles ++ from_openings f.openings f.fees f.parts
unfolding form_text start
started f = sym (append_assoc (line_of "horizon=" f.horizon) (optional_text idle_count_text (idle_lines f.idles)) (from_openings f.openings f.fees f.parts))

-- ---- and those before the number of parts

to_parts : ℕ → List ℕ → List ℕ → List ℕ → List ℕ
to_parts h is os fs = start h is ++ (line_of "openings=" (count_of most_openings (fees_agree os fs) (length os)) ++ texts opening_text (paired os fs))

to_parts_end : (f : Form) → length f.fees ≡ length f.openings → breaks (to_parts f.horizon f.idles f.openings f.fees) + 1 ≡ parts_line f
unfolding to_parts bytes
to_parts_end f e =
    let n = line_of "openings=" (count_of most_openings (fees_agree f.openings f.fees) (length f.openings)) in
    let os = texts opening_text (paired f.openings f.fees) in
    omega (
      arith,
      breaks_both (start f.horizon f.idles) (n ++ os),
      start_ends f.horizon f.idles f refl,
      breaks_both n os,
      line_ends (bytes "openings=") refl (count_of most_openings (fees_agree f.openings f.fees) (length f.openings)),
      openings_end f.openings f.fees e,
    )

gone_on : (f : Form) → form_text f ≡ to_parts f.horizon f.idles f.openings f.fees ++ counted_text (length f.openings) f.parts
unfolding to_parts from_openings body_of
gone_on f =
    let s = start f.horizon f.idles in
    let n = line_of "openings=" (count_of most_openings (fees_agree f.openings f.fees) (length f.openings)) in
    let os = texts opening_text (paired f.openings f.fees) in
    let ps = counted_text (length f.openings) f.parts in
    started f ∙ ap (λ (x : List ℕ). s ++ x) (sym (append_assoc n os ps)) ∙ sym (append_assoc s (n ++ os) ps)

-- ---- the same fault

-- of forms whose texts begin alike
begun_alike : (f g : Form) (a x y : List ℕ) → form_text f ≡ a ++ x → form_text g ≡ a ++ y → (number at : ℕ) → read_form f ≡ refused number at → at ≤ breaks a → read_form g ≡ refused number at
unfolding read_form
begun_alike f g a x y e d number at is h =
    let s = form_text f in
    let t = form_text g in
    let most = length s + length t in
    let same = ap (first_lines at) d ∙ first_same at a y x h ∙ sym (ap (first_lines at) e) in
    let found = text_first any most job_lines (job_linewise any) s t number at tt (sym (text_fits most job_lines s (omega arith)) ∙ is) (omega arith) (omega arith) same in
    text_fits most job_lines t (omega arith) ∙ found.1

-- forms with the same horizon and idle steps
pub start_first : (f g : Form) → g.horizon ≡ f.horizon → g.idles ≡ f.idles → (number at : ℕ) → read_form f ≡ refused number at → at < openings_line f → read_form g ≡ refused number at
start_first f g h i number at is before =
    let d = started g ∙ ap (λ (a : List ℕ). a ++ from_openings g.openings g.fees g.parts) (ap₂ start h i) in
    begun_alike f g (start f.horizon f.idles) (from_openings f.openings f.fees f.parts) (from_openings g.openings g.fees g.parts) (started f) d number at is (omega (arith, before, start_ends f.horizon f.idles f refl))

-- and the same openings and fees, as many as each other
pub openings_first : (f g : Form) → g.horizon ≡ f.horizon → g.idles ≡ f.idles → g.openings ≡ f.openings → g.fees ≡ f.fees → length f.fees ≡ length f.openings
    → (number at : ℕ) → read_form f ≡ refused number at → at < parts_line f → read_form g ≡ refused number at
openings_first f g h i o p size number at is before =
    let same : to_parts g.horizon g.idles g.openings g.fees ≡ to_parts f.horizon f.idles f.openings f.fees = λ k. to_parts (h k) (i k) (o k) (p k) in
    let d = gone_on g ∙ ap (λ (a : List ℕ). a ++ counted_text (length g.openings) g.parts) same in
    begun_alike f g (to_parts f.horizon f.idles f.openings f.fees) (counted_text (length f.openings) f.parts) (counted_text (length g.openings) g.parts) (gone_on f) d number at is (omega (arith, before, to_parts_end f size))
