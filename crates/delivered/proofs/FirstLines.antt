-- Parsers that read line by line (`Linewise`): a fault is that of every text with the same lines up to the line at fault, and a value that of every text with the same lines up to the next. By the parsers' forms.
use Rattle.std.specs.Prelude.{Option, Some, None, Result, Ok, Err}
use Prim.Native.Nat.{ℕ, zero, suc, ◌+◌, ◌-◌, ◌/◌, ◌%◌, ◌≤◌, ◌<◌}
use mathlib.Core.Path.{◌≡◌, refl, sym, ap, subst, ◌∙◌}
use mathlib.Core.Bool.{Bool, true, false, ◌&&◌, cond, not, and-eq-true_iff, false≢true, true≢false}
use mathlib.Core.List.{List, [], ◌∷◌, ◌++◌}
use native.Mathlib.Omega.{arith}
use native.Mathlib.Decide.{dec_lt}
use lib.Dec.{leb, ltb, eqb}
use lib.ListN.{length, get_or, drop}
use lib.Seq.{drop-drop}
use borrow.Author.Tests.{eq-eqb, eqb-true, ne_eqb}
use Rattle.lines.specs.Line.{is_digit, digits, number_from, plain, starts_with, read_value_lem, read_line_lem, after}
use Rattle.lines.specs.Parser.{Parsed, good, fault, Parser, ◌>>=◌, return, in_range, read_field_lem, taken, row_at, optional_at, if_present, checked, chain, times, end as ends}
use Rattle.lines.proofs.Parsing.{bind_good, bind_fault, checked-good, checked_not, checked-fault, optional_there, optional_missing}
use Rattle.lines.proofs.Reading.{line_is, line_not}
use Rattle.lines.specs.Text.{decimal_in, decimal, line}
use Rattle.lines.proofs.Sound.{row_sound}
use Rattle.delivered.specs.FirstLines.{first_lines, breaks}

-- ---- the first line, byte by byte

-- whether a text has no byte
abbrev empty : List ℕ → Bool
empty [] = true
empty (b ∷ s) = false

-- an empty text has not the first lines of one with a byte
pub nothing_same : {X : Type 0} (m c : ℕ) (t : List ℕ) → first_lines (suc m) [] ≡ first_lines (suc m) (c ∷ t) → X
unfolding first_lines
nothing_same m c t e = absurd (true≢false (ap empty e))

module _ (m b c : ℕ) (s t : List ℕ) (e : first_lines (suc m) (b ∷ s) ≡ first_lines (suc m) (c ∷ t)) where
  -- the first bytes are the same
  same_byte : b ≡ c
  unfolding first_lines
  same_byte = ap (λ (l : List ℕ). get_or l 0 0) e

  -- behind the byte 10 that ends the line, one line fewer is the same
  next_line : b ≡ 10 → first_lines m s ≡ first_lines m t
  unfolding first_lines
  next_line x =
      let h : elim (eqb b 10) [ true ↦ first_lines m s | false ↦ first_lines (suc m) s ] ≡ elim (eqb c 10) [ true ↦ first_lines m t | false ↦ first_lines (suc m) t ] = ap (λ (l : List ℕ). drop 1 l) e in
      rw (eq-eqb b 10 x, eq-eqb c 10 (sym same_byte ∙ x)) at h

  -- behind another byte the line goes on
  same_line : (b ≡ 10 → ⊥) → first_lines (suc m) s ≡ first_lines (suc m) t
  unfolding first_lines
  same_line x =
      let h : elim (eqb b 10) [ true ↦ first_lines m s | false ↦ first_lines (suc m) s ] ≡ elim (eqb c 10) [ true ↦ first_lines m t | false ↦ first_lines (suc m) t ] = ap (λ (l : List ℕ). drop 1 l) e in
      rw (ne_eqb b 10 x, ne_eqb c 10 (λ z. x (same_byte ∙ z))) at h

-- ---- a value

-- the digits at the front of both are the same, and the byte behind them; where that is a byte 10, what follows it has the same first lines
record Digits (m : ℕ) (s t : List ℕ) : Type 0 where
  same : digits s ≡ digits t
  mark : get_or s (length (digits s)) 0 ≡ get_or t (length (digits s)) 0
  behind : get_or s (length (digits s)) 0 ≡ 10 → first_lines m (drop (suc (length (digits s))) s) ≡ first_lines m (drop (suc (length (digits s))) t)

same_digits : (m : ℕ) (s t : List ℕ) → first_lines (suc m) s ≡ first_lines (suc m) t → Digits m s t
unfolding digits
same_digits m [] [] e = record { same = refl; mark = refl; behind = λ x. absurd (omega (arith, x)) }
same_digits m [] (c ∷ t) e = nothing_same m c t e
same_digits m (b ∷ s) [] e = nothing_same m b s (sym e)
same_digits m (b ∷ s) (c ∷ t) e =
    subst (λ (x : ℕ). Digits m (b ∷ s) (x ∷ t)) (same_byte m b c s t e) (go (is_digit b) refl (λ n. same_digits m s t (same_line m b c s t e n)))
  where
    go : (d : Bool) → is_digit b ≡ d → ((b ≡ 10 → ⊥) → Digits m s t) → Digits m (b ∷ s) (b ∷ t)
    go true d rest =
        let k = rest (λ x. false≢true (ap is_digit (sym x) ∙ d)) in
        record { same = rw (digits, d) (ap (λ (l : List ℕ). b ∷ l) k.same); mark = rw (digits, d) k.mark; behind = rw (digits, d) k.behind }
    go false d rest = record { same = rw (digits, d) refl; mark = rw (digits, d) refl; behind = rw (digits, d) (next_line m b c s t e) }

-- what was read at the front of both: the same, and what is left has the same first lines
abbrev SameRead : ℕ → List ℕ → List ℕ → Option (ℕ × ℕ) → Option (ℕ × ℕ) → Type 0
SameRead m s t (Some (v, n)) y = (y ≡ Some (v, n)) × (first_lines m (drop n s) ≡ first_lines m (drop n t))
SameRead m s t None y = y ≡ None

-- whether a value and a byte 10 stand at the front
abbrev valued : List ℕ → Bool
valued s = plain (digits s) && eqb (get_or s (length (digits s)) 0) 10

value_there : (s : List ℕ) → valued s ≡ true → Some (number_from 0 (digits s), length (digits s) + 1) ≡ read_value_lem s
unfolding read_value_lem
value_there s e = rw (read_value_lem, e)

value_missing : (s : List ℕ) → valued s ≡ false → None ≡ read_value_lem s
unfolding read_value_lem
value_missing s e = rw (read_value_lem, e)

same_value : (m : ℕ) (s t : List ℕ) → first_lines (suc m) s ≡ first_lines (suc m) t → SameRead m s t (read_value_lem s) (read_value_lem t)
same_value m s t e = go (valued s) refl
  where
    k : Digits m s t
    k = same_digits m s t e

    both : valued t ≡ valued s
    both = ap (λ (ds : List ℕ). plain ds && eqb (get_or t (length ds) 0) 10) (sym k.same) ∙ ap (λ (x : ℕ). plain (digits s) && eqb x 10) (sym k.mark)

    go : (b : Bool) → valued s ≡ b → SameRead m s t (read_value_lem s) (read_value_lem t)
    go true x =
        let w = (and-eq-true_iff (plain (digits s)) (eqb (get_or s (length (digits s)) 0) 10)).0 x in
        let y = sym (value_there t (both ∙ x)) ∙ ap (λ (ds : List ℕ). Some (number_from 0 ds, length ds + 1)) (sym k.same) in
        let z : suc (length (digits s)) ≡ length (digits s) + 1 = omega arith in
        subst (λ (o : Option (ℕ × ℕ)). SameRead m s t o (read_value_lem t)) (value_there s x)
        (y, subst (λ (n : ℕ). first_lines m (drop n s) ≡ first_lines m (drop n t)) z (k.behind (eqb-true (get_or s (length (digits s)) 0) 10 w.1)))
    go false x = subst (λ (o : Option (ℕ × ℕ)). SameRead m s t o (read_value_lem t)) (value_missing s x) (sym (value_missing t (both ∙ x)))

-- ---- a key

-- no byte of a key is a byte 10
abbrev pub no_break : List ℕ → Bool
no_break [] = true
no_break (k ∷ ks) = not (eqb k 10) && no_break ks

-- both begin with the key or neither does, and what follows it has the same first lines
record Keyed (m : ℕ) (key s t : List ℕ) : Type 0 where
  same : starts_with key s ≡ starts_with key t
  behind : starts_with key s ≡ true → first_lines (suc m) (drop (length key) s) ≡ first_lines (suc m) (drop (length key) t)

same_key : (m : ℕ) (key : List ℕ) → no_break key ≡ true → (s t : List ℕ) → first_lines (suc m) s ≡ first_lines (suc m) t → Keyed m key s t
unfolding starts_with
same_key m [] n s t e = record { same = refl; behind = λ _. e }
same_key m (k ∷ ks) n [] [] e = record { same = refl; behind = λ x. absurd (false≢true x) }
same_key m (k ∷ ks) n [] (c ∷ t) e = nothing_same m c t e
same_key m (k ∷ ks) n (b ∷ s) [] e = nothing_same m b s (sym e)
same_key m (k ∷ ks) n (b ∷ s) (c ∷ t) e =
    subst (λ (x : ℕ). Keyed m (k ∷ ks) (b ∷ s) (x ∷ t)) (same_byte m b c s t e) (go (eqb k b) refl (λ q. same_key m ks w.1 s t (same_line m b c s t e q)))
  where
    w : (not (eqb k 10) ≡ true) × (no_break ks ≡ true)
    w = (and-eq-true_iff (not (eqb k 10)) (no_break ks)).0 n

    not-ten : k ≡ 10 → ⊥
    not-ten z = false≢true (simp (eq-eqb k 10 z) at w.0)

    go : (d : Bool) → eqb k b ≡ d → ((b ≡ 10 → ⊥) → Keyed m ks s t) → Keyed m (k ∷ ks) (b ∷ s) (b ∷ t)
    go true d rest =
        let q = rest (λ z. not-ten (eqb-true k b d ∙ z)) in
        record { same = rw (starts_with, d) q.same; behind = rw (starts_with, d) q.behind }
    go false d rest = record { same = rw (starts_with, d) refl; behind = rw (starts_with, d) (λ x. absurd (false≢true x)) }

same_read : (m : ℕ) (key : List ℕ) → no_break key ≡ true → (s t : List ℕ) → first_lines (suc m) s ≡ first_lines (suc m) t → SameRead m s t (read_line_lem key s) (read_line_lem key t)
same_read m key n s t e = go (starts_with key s) refl
  where
    k : ℕ
    k = length key

    q : Keyed m key s t
    q = same_key m key n s t e

    behind_key : (x y : Option (ℕ × ℕ)) → SameRead m (drop k s) (drop k t) x y → SameRead m s t (after k x) (after k y)
    behind_key (Some (v, i)) y h = (ap (after k) h.0, sym (ap (first_lines m) (drop-drop i k s)) ∙ h.1 ∙ ap (first_lines m) (drop-drop i k t))
    behind_key None y h = ap (after k) h

    go : (b : Bool) → starts_with key s ≡ b → SameRead m s t (read_line_lem key s) (read_line_lem key t)
    go true x = rw (line_is key s x, line_is key t (sym q.same ∙ x)) (behind_key (read_value_lem (drop k s)) (read_value_lem (drop k t)) (same_value m (drop k s) (drop k t) (q.behind x)))
    go false x = rw (← line_not key s x, ← line_not key t (sym q.same ∙ x)) refl

-- ---- one line

-- the answers to both: the same, and after a value what is left has the same first lines
abbrev SameRow : {A : Type 0} → ℕ → ℕ → Parsed A → Parsed A → Type 0
SameRow m l (good a r k) y = (k ≡ l + 1) × (r' : List ℕ) × (y ≡ good a r' k) × (first_lines m r ≡ first_lines m r')
SameRow m l (fault n k) y = (k ≡ l) × (y ≡ fault n k)

-- the parser reads one line: texts with the same first lines are answered alike
abbrev pub OneLine : {A : Type 0} → Parser A → Type 0
OneLine p = (m : ℕ) (s t : List ℕ) (l : ℕ) → first_lines (suc m) s ≡ first_lines (suc m) t → SameRow m l (p s l) (p t l)

-- a row reads one line
pub row_one : (key : List ℕ) → no_break key ≡ true → (lo hi : ℕ) → OneLine (row_at key lo hi)
unfolding row_at read_field_lem taken in_range
row_one key n lo hi m s t l e = go (read_line_lem key s) (read_line_lem key t) (same_read m key n s t e)
  where
    pick : (v i : ℕ) → first_lines m (drop i s) ≡ first_lines m (drop i t) → (b : Bool) → (leb lo v && leb v hi) ≡ b → SameRow m l (taken s l (in_range lo hi (Some (v, i)))) (taken t l (in_range lo hi (Some (v, i))))
    pick v i q true z = rw (in_range, z) (refl, drop i t, refl, q)
    pick v i q false z = rw (in_range, z) (refl, refl)

    go : (x y : Option (ℕ × ℕ)) → SameRead m s t x y → SameRow m l (taken s l (in_range lo hi x)) (taken t l (in_range lo hi y))
    go None y h = subst (λ (o : Option (ℕ × ℕ)). SameRow m l (fault 2 l) (taken t l (in_range lo hi o))) (sym h) (refl, refl)
    go (Some (v, i)) y h = subst (λ (o : Option (ℕ × ℕ)). SameRow m l (taken s l (in_range lo hi (Some (v, i)))) (taken t l (in_range lo hi o))) (sym h.0) (pick v i h.1 (leb lo v && leb v hi) refl)

-- a further rule of a parser of one line reads one line
pub checked_one : {A : Type 0} (k : ℕ) (ok : A → Bool) (p : Parser A) → OneLine p → OneLine (checked k ok p)
checked_one {A} k ok p one m s t l e = go (p s l) refl (one m s t l e)
  where
    go : (x : Parsed A) → p s l ≡ x → SameRow m l x (p t l) → SameRow m l (checked k ok p s l) (checked k ok p t l)
    go (good v r j) x h = pick (ok v) refl
      where
        pick : (b : Bool) → ok v ≡ b → SameRow m l (checked k ok p s l) (checked k ok p t l)
        pick true z = rw (checked-good k ok p s l x z, checked-good k ok p t l h.2 z) (h.0, h.1, refl, h.3)
        pick false z = rw (checked_not k ok p s l x z, checked_not k ok p t l h.2 z) (refl, refl)
    go (fault n j) x h = rw (checked-fault k ok p s l x, checked-fault k ok p t l h.1) (h.0, refl)

-- ---- how many lines are read

-- from a text and a line whose sum of line and breaks is m: as many lines are read as breaks are passed, and a fault is on a line that is there or the next
abbrev pub InSpan : {A : Type 0} → ℕ → Parsed A → Type 0
InSpan m (good a r k) = k + breaks r ≡ m
InSpan m (fault n k) = k ≤ m

-- every answer of the parser
abbrev pub Spans : {A : Type 0} → Parser A → Type 0
Spans p = (s : List ℕ) (l : ℕ) → InSpan (l + breaks s) (p s l)

-- the breaks of a text behind another
pub breaks_both : (xs ys : List ℕ) → breaks (xs ++ ys) ≡ breaks xs + breaks ys
unfolding breaks
breaks_both [] ys = omega arith
breaks_both (x ∷ xs) ys = omega (arith, breaks_both xs ys)

-- a key has no breaks
pub key_unbroken : (key : List ℕ) → no_break key ≡ true → breaks key ≡ 0
unfolding breaks
key_unbroken [] n = refl
key_unbroken (k ∷ ks) n = let w = (and-eq-true_iff (not (eqb k 10)) (no_break ks)).0 n in go (eqb k 10) w.0 (key_unbroken ks w.1)
  where
    go : (b : Bool) → not b ≡ true → breaks ks ≡ 0 → cond b 1 0 + breaks ks ≡ 0
    go true h rest = absurd (false≢true h)
    go false h rest = omega (arith, rest)

-- a digit is no break
digit_unbroken : (d : ℕ) → breaks ((48 + d) ∷ []) ≡ 0
unfolding breaks
digit_unbroken d = rw (ne_eqb (48 + d) 10 (λ e. omega (arith, e))) refl

-- the digits of a number have no breaks
pub decimal_unbroken : (n v : ℕ) → breaks (decimal_in n v) ≡ 0
unfolding breaks decimal_in
decimal_unbroken zero v = refl
decimal_unbroken (suc n) v = go (ltb v 10) (decimal_unbroken n (v / 10))
  where
    go : (b : Bool) → breaks (decimal_in n (v / 10)) ≡ 0 → breaks (elim b [ true ↦ (48 + v) ∷ [] | false ↦ decimal_in n (v / 10) ++ (48 + v % 10) ∷ [] ]) ≡ 0
    go true rest = digit_unbroken v
    go false rest = omega (arith, breaks_both (decimal_in n (v / 10)) ((48 + v % 10) ∷ []), rest, digit_unbroken (v % 10))

-- the line of a value has one break
pub line_ends : (key : List ℕ) → no_break key ≡ true → (v : ℕ) → breaks (line key v) ≡ 1
unfolding line breaks
line_ends key n v = omega (arith, breaks_both key (decimal v ++ 10 ∷ []), breaks_both (decimal v) (10 ∷ []), key_unbroken key n, decimal_unbroken 10 v)

-- a row passes its line's break, or is at fault on its line
pub row_spans : (key : List ℕ) → no_break key ≡ true → (lo hi : ℕ) → Spans (row_at key lo hi)
row_spans key n lo hi s l = go (row_at key lo hi s l) refl (row_one key n lo hi 0 s s l refl)
  where
    go : (x : Parsed ℕ) → row_at key lo hi s l ≡ x → SameRow 0 l x (row_at key lo hi s l) → InSpan (l + breaks s) x
    go (good v r k) e h = omega (arith, h.0, ap breaks (row_sound key lo hi s r l k v e), breaks_both (line key v) r, line_ends key n v)
    go (fault i k) e h = omega (arith, h.0)

-- a further rule is at fault on the first line
pub checked_spans : {A : Type 0} (k : ℕ) (ok : A → Bool) (p : Parser A) → Spans p → Spans (checked k ok p)
checked_spans {A} k ok p h s l = go (p s l) refl (h s l)
  where
    go : (x : Parsed A) → p s l ≡ x → InSpan (l + breaks s) x → InSpan (l + breaks s) (checked k ok p s l)
    go (good v r m) x i = pick (ok v) refl
      where
        pick : (b : Bool) → ok v ≡ b → InSpan (l + breaks s) (checked k ok p s l)
        pick true z = rw (checked-good k ok p s l x z) i
        pick false z = rw (checked_not k ok p s l x z) (omega arith)
    go (fault n m) x i = rw (checked-fault k ok p s l x) i

-- ---- from any line on

-- an answer d lines further on
abbrev pub further : {A : Type 0} → ℕ → Parsed A → Parsed A
further d (good a r k) = good a r (k + d)
further d (fault n k) = fault n (k + d)

-- the parser counts its lines from the one that it begins on
abbrev pub Counts : {A : Type 0} → Parser A → Type 0
Counts p = (s : List ℕ) (l d : ℕ) → p s (l + d) ≡ further d (p s l)

-- a row does
pub row_counts : (key : List ℕ) (lo hi : ℕ) → Counts (row_at key lo hi)
unfolding row_at taken
row_counts key lo hi s l d = go (read_field_lem key lo hi s)
  where
    go : (x : Result (ℕ × ℕ) ℕ) → taken s (l + d) x ≡ further d (taken s l x)
    go (Ok (v, n)) = ap (good v (drop n s)) (omega arith)
    go (Err k) = refl

-- a further rule of a parser
pub checked_counts : {A : Type 0} (k : ℕ) (ok : A → Bool) (p : Parser A) → Counts p → Counts (checked k ok p)
checked_counts {A} k ok p h s l d = go (p s l) refl
  where
    go : (x : Parsed A) → p s l ≡ x → checked k ok p s (l + d) ≡ further d (checked k ok p s l)
    go (good v r j) x = pick (ok v) refl
      where
        pick : (b : Bool) → ok v ≡ b → checked k ok p s (l + d) ≡ further d (checked k ok p s l)
        pick true z = checked-good k ok p s (l + d) (h s l d ∙ ap (further d) x) z ∙ ap (further d) (sym (checked-good k ok p s l x z))
        pick false z = checked_not k ok p s (l + d) (h s l d ∙ ap (further d) x) z ∙ ap (further d) (sym (checked_not k ok p s l x z))
    go (fault n j) x = checked-fault k ok p s (l + d) (h s l d ∙ ap (further d) x) ∙ ap (further d) (sym (checked-fault k ok p s l x))

-- ---- line by line

-- the answer stands on line l or behind it
abbrev pub Above : {A : Type 0} → ℕ → Parsed A → Type 0
Above l (good a r k) = l ≤ k
Above l (fault n k) = l ≤ k

module _ (P : ℕ → Type 0) where
  -- the lines before line e decide: an answer before that is the other's too, of faults where P holds of the number
  abbrev pub Alike : {A : Type 0} → ℕ → Parsed A → Parsed A → Type 0
  Alike e (good a r k) y = k < e → (r' : List ℕ) × (y ≡ good a r' k) × (first_lines (e - k) r ≡ first_lines (e - k) r')
  Alike e (fault n k) y = P n → k < e → y ≡ fault n k

  -- the parser reads line by line: its answer's line is not before the first, and the lines up to it decide the answer
  pub record Linewise {A : Type 0} (p : Parser A) : Type 0 where
    pub above : (s : List ℕ) (l : ℕ) → Above l (p s l)
    pub spans : Spans p
    pub counts : Counts p
    -- texts whose lines l to e - 1 are the same
    pub alike : (e : ℕ) (s t : List ℕ) (l : ℕ) → l < e → first_lines (e - l) s ≡ first_lines (e - l) t → Alike e (p s l) (p t l)

  -- a parser of one line reads line by line
  pub one_linewise : {A : Type 0} (p : Parser A) → OneLine p → Spans p → Counts p → Linewise p
  one_linewise {A} p one span count = record { above = λ s l. up l (p s l) (p s l) (one 0 s s l refl); spans = span; counts = count; alike = alike }
    where
      up : (l : ℕ) (x y : Parsed A) → SameRow 0 l x y → Above l x
      up l (good a r k) y h = omega (arith, h.0)
      up l (fault n k) y h = omega (arith, h.0)

      alike : (e : ℕ) (s t : List ℕ) (l : ℕ) → l < e → first_lines (e - l) s ≡ first_lines (e - l) t → Alike e (p s l) (p t l)
      alike e s t l h q = go (p s l) (one m s t l (ap (λ (n : ℕ). first_lines n s) (sym z) ∙ q ∙ ap (λ (n : ℕ). first_lines n t) z))
        where
          m : ℕ
          m = e - (l + 1)

          z : e - l ≡ suc m
          z = omega arith

          go : (x : Parsed A) → SameRow m l x (p t l) → Alike e x (p t l)
          go (good a r k) w = λ i. let j : m ≡ e - k = omega (arith, w.0) in
              (w.1, w.2, ap (λ (n : ℕ). first_lines n r) (sym j) ∙ w.3 ∙ ap (λ (n : ℕ). first_lines n w.1) j)
          go (fault n k) w = λ is i. w.1

  -- a parser that reads nothing
  pub return_linewise : {A : Type 0} (a : A) → Linewise (return a)
  unfolding return
  return_linewise a = record { above = λ s l. omega arith; spans = λ s l. omega arith; counts = λ s l d. refl; alike = λ e s t l h q i. (t, refl, q) }

  -- two parsers, one behind the other
  pub bind_linewise : {A B : Type 0} (p : Parser A) (f : A → Parser B) → Linewise p → ((a : A) → Linewise (f a)) → Linewise (p >>= f)
  bind_linewise {A} {B} p f first next = record { above = λ s l. rises s l (p s l) refl (first.above s l); spans = λ s l. within s l (p s l) refl (first.spans s l); counts = λ s l d. moved s l d (p s l) refl; alike = λ e s t l h q. go e s t l (p s l) refl (first.above s l) (first.alike e s t l h q) }
    where
      up : (l k : ℕ) (x : Parsed B) → l ≤ k → Above k x → Above l x
      up l k (good b r i) h j = omega arith
      up l k (fault n i) h j = omega arith

      rises : (s : List ℕ) (l : ℕ) (x : Parsed A) → p s l ≡ x → Above l x → Above l ((p >>= f) s l)
      rises s l (good a r k) x h = rw (bind_good p f x) (up l k (f a r k) h ((next a).above r k))
      rises s l (fault n k) x h = rw (bind_fault p f x) h

      same : (m n : ℕ) (x : Parsed B) → m ≡ n → InSpan m x → InSpan n x
      same m n (good b r i) h j = omega arith
      same m n (fault k i) h j = omega arith

      within : (s : List ℕ) (l : ℕ) (x : Parsed A) → p s l ≡ x → InSpan (l + breaks s) x → InSpan (l + breaks s) ((p >>= f) s l)
      within s l (good a r k) x h = rw (bind_good p f x) (same (k + breaks r) (l + breaks s) (f a r k) h ((next a).spans r k))
      within s l (fault n k) x h = rw (bind_fault p f x) h

      moved : (s : List ℕ) (l d : ℕ) (x : Parsed A) → p s l ≡ x → (p >>= f) s (l + d) ≡ further d ((p >>= f) s l)
      moved s l d (good a r k) x = bind_good p f (first.counts s l d ∙ ap (further d) x) ∙ (next a).counts r k d ∙ ap (further d) (sym (bind_good p f x))
      moved s l d (fault n k) x = bind_fault p f (first.counts s l d ∙ ap (further d) x) ∙ ap (further d) (sym (bind_fault p f x))

      -- an answer behind the lines that are the same says nothing
      far : (e k : ℕ) (x y : Parsed B) → e ≤ k → Above k x → Alike e x y
      far e k (good b r i) y h j = λ w. absurd (omega arith)
      far e k (fault n i) y h j = λ is w. absurd (omega arith)

      go : (e : ℕ) (s t : List ℕ) (l : ℕ) (x : Parsed A) → p s l ≡ x → Above l x → Alike e x (p t l) → Alike e ((p >>= f) s l) ((p >>= f) t l)
      go e s t l (fault n k) x h w = rw (bind_fault p f x) (λ is i. bind_fault p f (w is i))
      go e s t l (good a r k) x h w = rw (bind_good p f x) (near (dec_lt k e))
        where
          near : Dec (k < e) → Alike e (f a r k) ((p >>= f) t l)
          near (yes i) = let v = w i in rw (bind_good p f v.1) ((next a).alike e r v.0 k i v.2)
          near (no i) = far e k (f a r k) ((p >>= f) t l) (omega (arith, i)) ((next a).above r k)

  -- a line that may be missing
  pub optional_linewise : (key : List ℕ) → no_break key ≡ true → (lo hi : ℕ) → Linewise (optional_at key lo hi)
  optional_linewise key n lo hi = record { above = λ s l. up s l (starts_with key s) refl; spans = λ s l. within s l (starts_with key s) refl; counts = λ s l d. moved s l d (starts_with key s) refl; alike = λ e s t l h q. go e s t l h q (starts_with key s) refl }
    where
      there : Linewise (row_at key lo hi >>= λ v. return (Some v))
      there = bind_linewise (row_at key lo hi) _ (one_linewise (row_at key lo hi) (row_one key n lo hi) (row_spans key n lo hi) (row_counts key lo hi)) (λ v. return_linewise (Some v))

      up : (s : List ℕ) (l : ℕ) (b : Bool) → starts_with key s ≡ b → Above l (optional_at key lo hi s l)
      up s l true x = rw (optional_there key lo hi s l x) (there.above s l)
      up s l false x = rw (optional_missing key lo hi s l x) (omega arith)

      within : (s : List ℕ) (l : ℕ) (b : Bool) → starts_with key s ≡ b → InSpan (l + breaks s) (optional_at key lo hi s l)
      within s l true x = rw (optional_there key lo hi s l x) (there.spans s l)
      within s l false x = rw (optional_missing key lo hi s l x) (omega arith)

      moved : (s : List ℕ) (l d : ℕ) (b : Bool) → starts_with key s ≡ b → optional_at key lo hi s (l + d) ≡ further d (optional_at key lo hi s l)
      moved s l d true x = optional_there key lo hi s (l + d) x ∙ there.counts s l d ∙ ap (further d) (sym (optional_there key lo hi s l x))
      moved s l d false x = optional_missing key lo hi s (l + d) x ∙ ap (further d) (sym (optional_missing key lo hi s l x))

      go : (e : ℕ) (s t : List ℕ) (l : ℕ) → l < e → first_lines (e - l) s ≡ first_lines (e - l) t → (b : Bool) → starts_with key s ≡ b → Alike e (optional_at key lo hi s l) (optional_at key lo hi t l)
      go e s t l h q b x = pick b x
        where
          z : e - l ≡ suc (e - (l + 1))
          z = omega arith

          k : Keyed (e - (l + 1)) key s t
          k = same_key (e - (l + 1)) key n s t (ap (λ (i : ℕ). first_lines i s) (sym z) ∙ q ∙ ap (λ (i : ℕ). first_lines i t) z)

          pick : (b : Bool) → starts_with key s ≡ b → Alike e (optional_at key lo hi s l) (optional_at key lo hi t l)
          pick true x = rw (optional_there key lo hi s l x, optional_there key lo hi t l (sym k.same ∙ x)) (there.alike e s t l h q)
          pick false x = rw (optional_missing key lo hi s l x, optional_missing key lo hi t l (sym k.same ∙ x)) (λ i. (t, refl, q))

  -- what follows a line where that is present
  pub present_linewise : {A B : Type 0} (f : A → Parser B) → ((a : A) → Linewise (f a)) → (o : Option A) → Linewise (if_present f o)
  unfolding if_present
  present_linewise f h None = return_linewise None
  present_linewise f h (Some a) = bind_linewise (f a) _ (h a) (λ b. return_linewise (Some b))

  -- a parser repeated with a state
  pub chain_linewise : {A S : Type 0} (p : S → Parser A) (next : S → A → S) → ((k : S) → Linewise (p k)) → (n : ℕ) (before : S) → Linewise (chain p next n before)
  unfolding chain
  chain_linewise p next h zero before = return_linewise []
  chain_linewise p next h (suc n) before =
      bind_linewise (p before) _ (h before) (λ a. bind_linewise (chain p next n (next before a)) _ (chain_linewise p next h n (next before a)) (λ rest. return_linewise (a ∷ rest)))

  -- a parser repeated a number of times
  pub times_linewise : {A : Type 0} (n : ℕ) (p : Parser A) → Linewise p → Linewise (times n p)
  unfolding times
  times_linewise n p h = chain_linewise {S = ℕ} (λ _. p) (λ _ _. 0) (λ _. h) n 0

  -- nothing more
  pub end_linewise : Linewise ends
  unfolding ends
  end_linewise = record { above = up; spans = within; counts = moved; alike = alike }
    where
      moved : (s : List ℕ) (l d : ℕ) → ends s (l + d) ≡ further d (ends s l)
      moved [] l d = refl
      moved (b ∷ s) l d = refl

      up : (s : List ℕ) (l : ℕ) → Above l (ends s l)
      up [] l = omega arith
      up (b ∷ s) l = omega arith

      within : (s : List ℕ) (l : ℕ) → InSpan (l + breaks s) (ends s l)
      within [] l = omega arith
      within (b ∷ s) l = omega arith

      alike : (e : ℕ) (s t : List ℕ) (l : ℕ) → l < e → first_lines (e - l) s ≡ first_lines (e - l) t → Alike e (ends s l) (ends t l)
      alike e s t l h q = go s t (ap (λ (i : ℕ). first_lines i s) (sym z) ∙ q ∙ ap (λ (i : ℕ). first_lines i t) z)
        where
          z : e - l ≡ suc (e - (l + 1))
          z = omega arith

          go : (s t : List ℕ) → first_lines (suc (e - (l + 1))) s ≡ first_lines (suc (e - (l + 1))) t → Alike e (ends s l) (ends t l)
          go [] [] w = λ i. ([], refl, refl)
          go [] (c ∷ t) w = nothing_same (e - (l + 1)) c t w
          go (b ∷ s) [] w = nothing_same (e - (l + 1)) b s (sym w)
          go (b ∷ s) (c ∷ t) w = λ is i. refl

  -- a further rule of a parser of many lines, whose fault is on the first: P says nothing of its number
  pub ruled_linewise : {A : Type 0} (k : ℕ) → (P k → ⊥) → (ok : A → Bool) (p : Parser A) → Linewise p → Linewise (checked k ok p)
  ruled_linewise {A} k unsaid ok p h = record { above = λ s l. rises s l (p s l) refl (h.above s l); spans = checked_spans k ok p h.spans; counts = checked_counts k ok p h.counts; alike = λ e s t l i q. go e s t l (p s l) refl (h.alike e s t l i q) }
    where
      rises : (s : List ℕ) (l : ℕ) (x : Parsed A) → p s l ≡ x → Above l x → Above l (checked k ok p s l)
      rises s l (good v r m) x i = pick (ok v) refl
        where
          pick : (b : Bool) → ok v ≡ b → Above l (checked k ok p s l)
          pick true z = rw (checked-good k ok p s l x z) i
          pick false z = rw (checked_not k ok p s l x z) (omega arith)
      rises s l (fault n m) x i = rw (checked-fault k ok p s l x) i

      go : (e : ℕ) (s t : List ℕ) (l : ℕ) (x : Parsed A) → p s l ≡ x → Alike e x (p t l) → Alike e (checked k ok p s l) (checked k ok p t l)
      go e s t l (good v r m) x w = pick (ok v) refl
        where
          pick : (b : Bool) → ok v ≡ b → Alike e (checked k ok p s l) (checked k ok p t l)
          pick true z = rw (checked-good k ok p s l x z) (λ i. let u = w i in (u.0, checked-good k ok p t l u.1 z, u.2))
          pick false z = rw (checked_not k ok p s l x z) (λ is i. absurd (unsaid is))
      go e s t l (fault n m) x w = rw (checked-fault k ok p s l x) (λ is i. checked-fault k ok p t l (w is i))
