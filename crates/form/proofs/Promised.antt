-- The writer's answer keeps its promise on every form and every room (`promised`): what it writes reads back as what the form states (`written_reads`), and the numbers read from an accepted text
-- make that text again (`read_writes`). By what the form's text is read as.
use Rattle.std.specs.Prelude.{None}
use Prim.Native.Nat.{ℕ, zero, suc, ◌≤◌, ◌<◌}
use mathlib.Core.Path.{◌≡◌, refl, sym, ap, ap₂, subst, ◌∙◌}
use mathlib.Core.List.{List, [], ◌∷◌, ◌++◌}
use native.Mathlib.Omega.{arith}
use mathlib.Core.Logic.{⊎_elim}
use lib.ListN.{length, take, drop, length-map}
use Rattle.lines.specs.Wrote.{Wrote}
use Rattle.lines.proofs.Writing as wrote
use Rattle.lines.specs.Parser.{accepted, refused, good, fault, return, end as ends, finish, whole}
use Rattle.fault_lines.specs.Fault.{nowhere, skipped, after_break, fault_span_lem, span_in}
use Rattle.lines.proofs.Parsing.{bind_good, bind_fault, text_fits}
use Rattle.lines.proofs.Outcomes.{one_value, one_fault, not_both}
use Rattle.job_grammar.specs.Grammar.{JobText, job_lines, max_bytes, read_job_text}
use Rattle.part_lines.specs.Grammar.{meant_part}
use Rattle.job_grammar.specs.Rendering.{job_text_lem}
use Rattle.job_grammar.proofs.Optionals.{idle_steps_lem2}
use Rattle.job_grammar.proofs.Accepted.{lines_tell, valid_text, text_is}
use Rattle.job_grammar.proofs.Lengths as lengths
use Rattle.job_grammar.proofs.Complete.{read_back}
use Rattle.answers.specs.Said.{Said, plainly, refusal, lent}
use Rattle.answers.proofs.Replies as replies
use Rattle.form_facts.proofs.Facts.{paired_size, parts_size}
use Rattle.form.specs.Form.{Form, stated, form_text, read_form}
use Rattle.form.specs.Write.{form_reply, write_said, write_room}
use Rattle.form.specs.Promise.{Agree, Few, FormFault, form_of, WritePromise}
use Rattle.form.proofs.Differing.{idles_out, fees_out, parts_out}
use Rattle.form.proofs.Readback.{Readback, back, broken}
use Rattle.form.proofs.Stated.{Held, cut, form_back}
use Rattle.form.proofs.Returned.{same_text, agrees, fits, returned}

-- ---- what the lines give is what the form is read as

-- a form whose lines say a text with nothing left behind is read as that text
pub form_accepted : (f : Form) (t : JobText) (l : ℕ) → job_lines (form_text f) 1 ≡ good t [] l → read_form f ≡ accepted t
unfolding read_form whole ends return
form_accepted f t l e = ap finish (bind_good job_lines _ e ∙ bind_good ends _ refl)

-- a form whose lines have a fault is refused with its number and line
pub form_refused : (f : Form) (n l : ℕ) → job_lines (form_text f) 1 ≡ fault n l → read_form f ≡ refused n l
unfolding read_form whole
form_refused f n l e = ap finish (bind_fault job_lines _ e)

-- and the text that is written to be read gives the same
pub cut_reads : (f : Form) (held : Held f) → finish (whole job_lines (cut f) 1) ≡ read_form f
unfolding read_form whole ends return
cut_reads f held = go (form_back f held)
  where
    go : Readback FormFault (Agree f × Few f) (stated f) [] [] (job_lines (form_text f) 1) (job_lines (cut f) 1) → finish (whole job_lines (cut f) 1) ≡ read_form f
    go (back g l h i) = ap finish (bind_good job_lines _ i ∙ bind_good ends _ refl) ∙ sym (form_accepted f (stated f) l h)
    go (broken n m w h i) = ap finish (bind_fault job_lines _ i) ∙ sym (form_refused f n m h)

-- what is said of the text written to be read is the writer's answer, if it fits
pub cut_says : (f : Form) → Held f → form_reply (finish (whole job_lines (cut f) 1)) ≡ write_said f
unfolding write_said
cut_says f held = ap form_reply (cut_reads f held)

-- what was written from the start on is the front
front : (xs ys : List ℕ) → take (length xs) (xs ++ ys) ≡ xs
front [] ys = refl
front (x ∷ xs) ys = ap (λ (l : List ℕ). x ∷ l) (front xs ys)

-- what was written from the start on is the front of the slice, up to the written length
pub written_front : {d xs e : List ℕ} {n : ℕ} → length xs ≤ length d → Wrote d 0 xs e n → take n e ≡ xs
written_front {d} {xs} h w = let v = wrote.written h w in ap₂ (λ (k : ℕ) (l : List ℕ). take k l) v.1 v.0 ∙ front xs (drop (length xs) d)

-- ---- the two directions

-- a written text reads back as the same job
pub written_reads : (f : Form) → Held f → (t : JobText) → read_form f ≡ accepted t → (t ≡ stated f) × (read_job_text (job_text_lem t) ≡ accepted t)
written_reads f held t e = go (form_back f held)
  where
    go : Readback FormFault (Agree f × Few f) (stated f) [] [] (job_lines (form_text f) 1) (job_lines (cut f) 1) → (t ≡ stated f) × (read_job_text (job_text_lem t) ≡ accepted t)
    go (back g l h i) =
        let same : t ≡ stated f = one_value (form_accepted f (stated f) l h) e in
        (same, subst (λ (u : JobText). read_job_text (job_text_lem u) ≡ accepted u) (sym same) (read_back (stated f) (lines_tell (form_text f) [] 1 l (stated f) h).known))
    go (broken n m w h i) = not_both e (form_refused f n m h)

-- an accepted text without the line of the walk number, read and written, comes out byte for byte
pub read_writes : (text : List ℕ) (t : JobText) → read_job_text text ≡ accepted t → t.walk ≡ None → write_said (form_of t) ≡ plainly 0 text
unfolding write_said read_form
read_writes text t e none =
    let v = valid_text text t e in
    let same : form_text (form_of t) ≡ text = same_text (form_of t) (agrees t v) (fits t v) ∙ ap job_text_lem (returned t v none) ∙ sym (text_is text t e) in
    ap form_reply (ap (λ (s : List ℕ). finish (whole job_lines s 1)) same ∙ text_fits max_bytes job_lines text (subst (λ (s : List ℕ). length s ≤ max_bytes) (sym (text_is text t e)) (lengths.text_fits t v)) ∙ e)
    ∙ ap (plainly 0) (sym (text_is text t e))

-- a fault is neither 0 nor 8
not_0 : (n : ℕ) → FormFault n → n ≡ 0 → ⊥
not_0 n w e = ⊎_elim (λ v. omega (arith, v)) (λ v. omega (arith, v)) w

not_8 : (n : ℕ) → FormFault n → n ≡ 8 → ⊥
not_8 n w e = ⊎_elim (λ v. omega (arith, v)) (λ v. omega (arith, v)) w

-- ---- no text of the caller's

skipped_none : (n : ℕ) → skipped n [] ≡ []
unfolding skipped after_break
skipped_none zero = refl
skipped_none (suc n) = skipped_none n

no_span : (n : ℕ) → fault_span_lem n [] ≡ nowhere
unfolding fault_span_lem
no_span zero = refl
no_span (suc n) = ap (span_in []) (skipped_none n)

-- ---- the promise

module _ (f : Form) (held : Held f) (room : ℕ) where
  -- of lists that agree and are not too long the very text is read
  reads : Agree f → Few f → read_form f ≡ finish (whole job_lines (job_text_lem (stated f)) 1)
  unfolding read_form
  reads agree few = ap (λ (s : List ℕ). finish (whole job_lines s 1)) (same_text f agree few)

  -- a job that the grammar accepts is not too large
  few_of : Agree f → read_job_text (job_text_lem (stated f)) ≡ accepted (stated f) → Few f
  few_of agree e =
      let j = (valid_text (job_text_lem (stated f)) (stated f) e).means.job in
      record {
        idles = omega (arith, j.few_idles, ap length (idle_steps_lem2 f.idles));
        openings = omega (arith, j.few_openings, paired_size f.openings f.fees agree.fees);
        parts = omega (arith, j.few_parts, length-map (stated f).parts (meant_part (length (stated f).openings)), parts_size (length f.openings) f.parts agree.parts);
      }

  -- and it has a part
  some_of : Agree f → read_job_text (job_text_lem (stated f)) ≡ accepted (stated f) → 1 ≤ length f.parts.lives
  some_of agree e =
      let j = (valid_text (job_text_lem (stated f)) (stated f) e).means.job in
      omega (arith, j.some_part, length-map (stated f).parts (meant_part (length (stated f).openings)), parts_size (length f.openings) f.parts agree.parts)

  -- and so it is what the form is read as
  accepts : Agree f → read_job_text (job_text_lem (stated f)) ≡ accepted (stated f) → read_form f ≡ accepted (stated f)
  accepts agree e = reads agree (few_of agree e) ∙ text_fits max_bytes job_lines (job_text_lem (stated f)) (lengths.text_fits (stated f) (valid_text (job_text_lem (stated f)) (stated f) e)) ∙ e

  -- an accepted text's numbers make it again
  again : (text : List ℕ) (t : JobText) → read_job_text text ≡ accepted t → t.walk ≡ None → f ≡ form_of t → write_said f ≡ plainly 0 text
  again text t e none same = ap write_said same ∙ read_writes text t e none

  short : room < write_room → WritePromise f room (plainly 8 [])
  short h = record {
    says_8 = (λ e. h, λ e. refl);
    says_0 = (λ e. absurd (omega arith), λ r. absurd (omega (arith, r.0)));
    writes_0 = λ e. absurd (omega arith);
    refuses = λ e. absurd (omega arith);
    idles_many = λ e. absurd (omega arith);
    fees_differ = λ e. absurd (omega arith);
    parts_differ = λ e. absurd (omega arith);
    reads = reads;
    returns = λ e. absurd (omega arith);
  }

  written : write_room ≤ room → (l : ℕ) → Agree f → job_lines (form_text f) 1 ≡ good (stated f) [] l → WritePromise f room (write_said f)
  unfolding write_said
  written h l agree e = subst (WritePromise f room) (sym said) (record {
    says_8 = (λ q. absurd (omega arith), λ q. absurd (omega arith));
    says_0 = (λ q. (h, (agree, reads_back)), λ q. refl);
    writes_0 = λ q. (refl, reads_back);
    refuses = λ q n m r. not_both read r;
    idles_many = λ q low high many. absurd (omega (arith, few.idles, many));
    fees_differ = λ q start differ. absurd (differ few.openings agree.fees);
    parts_differ = λ q start known differ. absurd (differ some few.parts agree.parts);
    reads = reads;
    returns = λ q text t r none same. (refl, ap (λ (s : Said). s.bytes) (sym said ∙ again text t r none same));
  })
    where
      read : read_form f ≡ accepted (stated f)
      read = form_accepted f (stated f) l e

      said : write_said f ≡ plainly 0 (job_text_lem (stated f))
      said = ap form_reply read

      reads_back : read_job_text (job_text_lem (stated f)) ≡ accepted (stated f)
      reads_back = read_back (stated f) (lines_tell (form_text f) [] 1 l (stated f) e).known

      few : Few f
      few = few_of agree reads_back

      some : 1 ≤ length f.parts.lives
      some = some_of agree reads_back

  refused_line : write_room ≤ room → (n m : ℕ) → FormFault n → job_lines (form_text f) 1 ≡ fault n m → WritePromise f room (write_said f)
  unfolding write_said
  refused_line h n m w e = subst (WritePromise f room) (sym said) (record {
    says_8 = (λ q. absurd (not_8 n w q), λ q. absurd (omega arith));
    says_0 = (λ q. absurd (not_0 n w q), λ r. not_both (accepts r.1.0 r.1.1) read);
    writes_0 = λ q. absurd (not_0 n w q);
    refuses = λ q i j r. (replies.refuses 1 [] read r, no_span m, subst FormFault (one_fault read r).0 w);
    idles_many = λ q low high many. replies.refuses 1 [] read (form_refused f 3 _ (idles_out f low high many));
    fees_differ = λ q start differ. replies.refuses 1 [] read (form_refused f 3 _ (fees_out f start differ));
    parts_differ = λ q start known differ. replies.refuses 1 [] read (form_refused f 3 _ (parts_out f start known differ));
    reads = reads;
    returns = λ q text t r none same. let z : n ≡ 0 = ap (λ (s : Said). s.result) (sym said ∙ again text t r none same) in absurd (not_0 n w z);
  })
    where
      read : read_form f ≡ refused n m
      read = form_refused f n m e

      said : write_said f ≡ refusal 1 [] n m
      said = ap form_reply read

  on_lines : write_room ≤ room → Readback FormFault (Agree f × Few f) (stated f) [] [] (job_lines (form_text f) 1) (job_lines (cut f) 1) → WritePromise f room (write_said f)
  on_lines h (back g l e i) = written h l g.0 e
  on_lines h (broken n m w e i) = refused_line h n m w e

  pub promised : WritePromise f room (lent write_room room (write_said f))
  promised = replies.with_room (WritePromise f room) write_room room (write_said f) short (λ h. on_lines h (form_back f held))
