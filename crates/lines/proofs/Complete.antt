-- What is written for a value is read back as that value (`Complete`). By the parsers' forms: row, optional, checked, chain, whole text.
use Rattle.std.specs.Prelude.{Some}
use Prim.Native.Nat.{ℕ, ◌+◌, ◌^◌, ◌≤◌, ◌<◌}
use mathlib.Core.Path.{◌≡◌, refl, sym, ap, ◌∙◌}
use mathlib.Core.List.{List, [], ◌∷◌, ◌++◌, append_assoc}
use mathlib.Core.Bool.{Bool, true}
use native.Mathlib.Omega.{arith}
use lib.ListN.{length}
use lib.Seq.{drop-append_seam}
use Rattle.lines.specs.Parser.{Parser, good, return, taken, row_at, optional_at, checked, chain, rising, end as ends, accepted, finish, whole, read_text}
use Rattle.lines.specs.Line.{starts_with}
use Rattle.lines.specs.Text.{decimal, line, texts}
use Rattle.lines.proofs.Reading.{field_good}
use Rattle.lines.proofs.Parsing.{bind_good, checked-good, rising_yes, optional_there, text_fits}
use Rattle.lines.proofs.Back.{starts_own, line_back}
use Rattle.base.specs.Each.{Chained}
use Rattle.lines.proofs.Sound.{Rises}

-- a value with P, written with anything behind it, is read, and what is behind it is left
abbrev pub Complete : {A : Type 0} → Parser A → (A → List ℕ) → (A → Type 0) → Type 0
Complete {A} p w P = (a : A) → P a → (s : List ℕ) (l : ℕ) → (l' : ℕ) × (p (w a ++ s) l ≡ good a s l')

-- the line of a value from lo to hi is read back as that value
pub row_complete : (key : List ℕ) (lo hi : ℕ) → hi < 10 ^ 10 → Complete (row_at key lo hi) (line key) (λ v. (lo ≤ v) × (v ≤ hi))
unfolding row_at taken
row_complete key lo hi few v h s l = (
  l + 1,
  ap (taken (line key v ++ s) l) (sym (field_good key (line key v ++ s) lo hi (line_back key v s (omega arith)) h.0 h.1))
      ∙ ap (λ (r : List ℕ). good v r (l + 1)) (drop-append_seam (line key v) s),
)

-- a line that may be missing: present
pub optional_present : (key : List ℕ) (lo hi : ℕ) → hi < 10 ^ 10 → (v : ℕ) → (lo ≤ v) × (v ≤ hi) → (s : List ℕ) (l : ℕ) → (l' : ℕ) × (optional_at key lo hi (line key v ++ s) l ≡ good (Some v) s l')
unfolding return line
optional_present key lo hi few v h s l =
    let r = row_complete key lo hi few v h s l in
    let e : starts_with key (line key v ++ s) ≡ true = ap (starts_with key) (append_assoc key (decimal v ++ 10 ∷ []) s) ∙ starts_own key ((decimal v ++ 10 ∷ []) ++ s) in
    (r.0, optional_there key lo hi (line key v ++ s) l e ∙ bind_good (row_at key lo hi) _ r.1)

-- a value that passes a further rule is read back as before, with the rule checked
pub checked_complete : {A : Type 0} (k : ℕ) (ok : A → Bool) (p : Parser A) (w : A → List ℕ) (P : A → Type 0) → Complete p w P → Complete (checked k ok p) w (λ v. P v × (ok v ≡ true))
checked_complete k ok p w P c v h s l = let r = c v h.0 s l in (r.0, checked-good k ok p (w v ++ s) l r.1 h.1)

-- a number that rises and stays within a bound
pub rising_complete : (n : ℕ) (key : List ℕ) (hi most : ℕ) → hi < 10 ^ 10 → (before : ℕ) → Complete (checked n (rising before most) (row_at key 1 hi)) (line key) (Rises hi most before)
rising_complete n key hi most few before v k s l =
    checked_complete n (rising before most) (row_at key 1 hi) (line key) _ (row_complete key 1 hi few) v ((k.low, k.high), rising_yes before most v k.after k.within) s l

-- a chain: as many as there are
pub chain_complete : {A S : Type 0} (p : S → Parser A) (next : S → A → S) (w : A → List ℕ) (P : S → A → Type 0) → ((prev : S) → Complete (p prev) w (P prev))
    → (prev : S) (xs : List A) → Chained P next prev xs → (s : List ℕ) (l : ℕ) → (l' : ℕ) × (chain p next (length xs) prev (texts w xs ++ s) l ≡ good xs s l')
unfolding chain return
chain_complete p next w P c prev [] h s l = (l, refl)
chain_complete p next w P c prev (x ∷ xs) h s l =
    let a = c prev x h.0 (texts w xs ++ s) l in
    let b = chain_complete p next w P c (next prev x) xs h.1 s a.0 in (
      b.0,
      ap (λ (r : List ℕ). chain p next (length (x ∷ xs)) prev r l) (append_assoc (w x) (texts w xs) s)
          ∙ bind_good (p prev) _ a.1 ∙ bind_good (chain p next (length xs) (next prev x)) _ b.1,
    )

-- a text whose lines are read to its end
pub text_complete : {A : Type 0} (most : ℕ) (p : Parser A) (s : List ℕ) (a : A) (l : ℕ) → length s ≤ most → p s 1 ≡ good a [] l → read_text most p s ≡ accepted a
unfolding whole ends return
text_complete most p s a l few e = sym (text_fits most p s few) ∙ ap finish (bind_good p _ e ∙ bind_good ends _ refl)
