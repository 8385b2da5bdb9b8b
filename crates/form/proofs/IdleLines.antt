-- The lines of the idle steps, read: none (`idles_none`), and the steps behind it (`idles_some`). By the optional line of their number.
use Rattle.std.specs.Prelude.{Option, Some}
use Prim.Native.Nat.{ℕ, ◌+◌, ◌≤◌}
use mathlib.Core.Path.{◌≡◌, ap, ap₂, ◌∙◌}
use mathlib.Core.Bool.{Bool, true, false, ◌&&◌, cond}
use mathlib.Core.List.{List, [], ◌∷◌, ◌++◌, append_assoc}
use native.Mathlib.Omega.{arith}
use borrow.Author.Tests.{eq-eqb, ne_eqb}
use lib.Dec.{leb}
use lib.ListN.{length}
use Rattle.lines.specs.Line.{starts_with}
use Rattle.lines.specs.Text.{bytes, line_of, texts, optional_text}
use Rattle.lines.specs.Parser.{Parsed, good, fault, ◌>>=◌, return, row, optional, if_present}
use Rattle.lines.proofs.Parsing.{bind_good, optional_there, optional_missing}
use Rattle.lines.proofs.Sound.{chain_gives}
use Rattle.job_grammar.specs.Grammar.{idle, idle_steps_lem, idles}
use Rattle.job_grammar.specs.Optionals.{idle_lines}
use Rattle.job_grammar.proofs.Optionals.{some_idles}
use Rattle.form_facts.specs.Facts.{count_of}
use Rattle.form.proofs.CoverLines.{starts_line}
use Rattle.form_writing.specs.Cut.{counted_cut, idles_cut}
use Rattle.form.specs.Promise.{line_after_lem}
use Rattle.form.specs.Form.{idle_count_text}

-- ---- the line after them

-- where there are no idle steps, the line after them is line 2
pub after_none : (n : ℕ) → n ≡ 0 → line_after_lem n ≡ 2
after_none n e = rw (eq-eqb n 0 e)

-- where there are n idle steps, the line after them is line 3 + n
pub after_some : (n : ℕ) → 1 ≤ n → line_after_lem n ≡ 3 + n
after_some n h = rw (ne_eqb n 0 (λ e. omega (arith, e)))

-- ---- the lines

-- the number's line, and what is behind it
abbrev pub numbered : List ℕ → List ℕ → List ℕ
numbered is t = line_of "idles=" (count_of 365 true (length is)) ++ (texts (line_of "idle=") is ++ t)

-- where there are idle steps, their text is the line of their number and their own lines
pub text_some : (is t : List ℕ) → 1 ≤ length is → optional_text idle_count_text (idle_lines is) ++ t ≡ numbered is t
unfolding idle_lines idle_count_text
text_some [] t h = absurd (omega arith)
text_some (i ∷ is) t h = append_assoc (line_of "idles=" (count_of 365 true (length (i ∷ is)))) (texts (line_of "idle=") (i ∷ is)) t

-- the same of the text that is cut
abbrev pub steps_if : List ℕ → List ℕ → Bool → List ℕ
steps_if is t b = cond b (texts (line_of "idle=") is) [] ++ t

-- where there are idle steps, the cut text has their own lines only if they are not too many
pub cut_some : (is t : List ℕ) → 1 ≤ length is → optional_text idles_cut (idle_lines is) ++ t ≡ line_of "idles=" (count_of 365 true (length is)) ++ steps_if is t (leb (length is) 365 && true)
unfolding idle_lines idles_cut counted_cut
cut_some [] t h = absurd (omega arith)
cut_some (i ∷ is) t h = append_assoc (line_of "idles=" (count_of 365 true (length (i ∷ is)))) (cond (leb (length (i ∷ is)) 365 && true) (texts (line_of "idle=") (i ∷ is)) []) t

-- where there are none, the lines behind begin with another key
pub idles_none : (w : List ℕ → List ℕ) (h l : ℕ) (is t : List ℕ) → length is ≡ 0 → starts_with (bytes "idles=") t ≡ false → idles h (optional_text w (idle_lines is) ++ t) l ≡ good (idle_lines is) t l
unfolding idles if_present return idle_lines
idles_none w h l [] t e other = bind_good (optional "idles=" 1 365) _ (optional_missing _ 1 365 t l other)
idles_none w h l (i ∷ is) t e other = absurd (omega arith)

-- where there are some, the number's line decides first
pub number_there : (h l v : ℕ) (t : List ℕ) → idles h (line_of "idles=" v ++ t) l ≡ ((row "idles=" 1 365 >>= λ v. return (Some v)) >>= if_present (idle_steps_lem h)) (line_of "idles=" v ++ t) l
unfolding idles ◌>>=◌
number_there h l v t =
    ap (λ (y : Parsed (Option ℕ)). elim y [ good a s m ↦ if_present (idle_steps_lem h) a s m | fault n m ↦ fault n m ])
    (optional_there (bytes "idles=") 1 365 (line_of "idles=" v ++ t) l (starts_line (bytes "idles=") v t))

-- idle steps behind their number are read by their lines
pub idles_some : {n m : ℕ} (h l : ℕ) (is t : List ℕ) → 1 ≤ length is → row "idles=" 1 365 (numbered is t) l ≡ good n (texts (line_of "idle=") is ++ t) m
    → idles h (optional_text idle_count_text (idle_lines is) ++ t) l ≡ (idle_steps_lem h n >>= λ x. return (Some x)) (texts (line_of "idle=") is ++ t) m
unfolding if_present return
idles_some h l is t some e =
    ap (λ (x : List ℕ). idles h x l) (text_some is t some) ∙ number_there h l (count_of 365 true (length is)) (texts (line_of "idle=") is ++ t) ∙ bind_good _ _ (bind_good (row "idles=" 1 365) _ e)

-- steps that were read behind their number's line
pub steps_in : (h n l : ℕ) (is t u : List ℕ) (k m : ℕ) → 1 ≤ n → k ≡ m → idle_steps_lem h n t l ≡ good is u k → (idle_steps_lem h n >>= λ x. return (Some x)) t l ≡ good (idle_lines is) u m
unfolding return idle_steps_lem
steps_in h n l is t u k m some e q =
    let size = (chain_gives (idle h) (λ (before i : ℕ). i) (λ _ _. Unit {0}) (λ _ _ _ _ _ _ _. tt) n 0 t u l k is q).0 in
    bind_good (idle_steps_lem h n) _ q ∙ ap₂ (λ (x : Option (List ℕ)) (j : ℕ). good x u j) (some_idles is (omega (arith, size))) e
