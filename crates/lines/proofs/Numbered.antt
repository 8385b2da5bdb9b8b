-- Which numbers and lines a fault can have: P holds of the number, and the line is one of the text's or the next, since each line that is read takes
-- a byte at least. By the parsers' forms.
use Rattle.std.specs.Prelude.{Option, Some, None, Result, Ok, Err}
use Prim.Native.Nat.{ℕ, zero, suc, ◌+◌, ◌≤◌}
use mathlib.Core.Path.{◌≡◌, refl, sym, subst}
use mathlib.Core.List.{List, [], ◌∷◌}
use mathlib.Core.Bool.{Bool, true, false}
use mathlib.Core.Logic.{inl, inr}
use native.Mathlib.Omega.{arith}
use lib.Dec.{leb}
use lib.ListN.{length, length-drop}
use Rattle.lines.specs.Line.{starts_with}
use borrow.Author.Tests.{leb-true}
use Rattle.lines.specs.Parser.{Parsed, good, fault, Parser, ◌>>=◌, return, read_field_lem, taken, row_at, optional_at, if_present, checked, chain, times, end as ends, refused, finish, whole, read_text}
use Rattle.lines.proofs.Reading.{InField, field_in}
use Rattle.lines.proofs.Outcomes.{one_fault, not_both}

-- from n bytes and line l on: a value leaves no more than it found, a fault is on a line that is there or is the next, and P holds of its number
abbrev pub NumberIn : {A : Type 0} → (ℕ → Type 0) → ℕ → ℕ → Parsed A → Type 0
NumberIn P n l (good a s m) = m + length s ≤ l + n
NumberIn P n l (fault k m) = P k × (m ≤ l + n)

-- every fault of the parser has a number with P and a line of the text or the next
abbrev pub Numbers : {A : Type 0} → (ℕ → Type 0) → Parser A → Type 0
Numbers P p = (s : List ℕ) (l : ℕ) → NumberIn P (length s) l (p s l)

module _ (P : ℕ → Type 0) where
  -- a row's faults have number 2 or 3, on a line of the text or the next
  pub row_numbers : P 2 → P 3 → (key : List ℕ) (lo hi : ℕ) → Numbers P (row_at key lo hi)
  unfolding row_at taken
  row_numbers two three key lo hi s l = go (read_field_lem key lo hi s) (field_in key s lo hi)
    where
      go : (f : Result (ℕ × ℕ) ℕ) → InField lo hi (length s) f → NumberIn P (length s) l (taken s l f)
      go (Ok (v, n)) h = omega (arith, length-drop n s)
      go (Err k) (inl e) = (subst P (sym e) two, omega arith)
      go (Err k) (inr e) = (subst P (sym e) three, omega arith)

  -- a further rule with fault k adds that number alone to the parser's faults
  pub checked_numbers : {A : Type 0} (k : ℕ) → P k → (ok : A → Bool) (p : Parser A) → Numbers P p → Numbers P (checked k ok p)
  unfolding checked
  checked_numbers {A} k is ok p h s l = go (p s l) (h s l)
    where
      pick : (t : Bool) (v : A) (m : ℕ) (r : List ℕ) → NumberIn P (length s) l (good v r m) → NumberIn {A = A} P (length s) l (elim t [ true ↦ good v r m | false ↦ fault k l ])
      pick true v m r q = q
      pick false v m r q = (is, omega arith)

      go : (x : Parsed A) → NumberIn P (length s) l x → NumberIn {A = A} P (length s) l (elim x [ good v r m ↦ elim (ok v) [ true ↦ good v r m | false ↦ fault k l ] | fault n m ↦ fault n m ])
      go (good v r m) q = pick (ok v) v m r q
      go (fault n m) q = q

  -- two parsers, one behind the other, have no fault numbers but those of the two
  pub bind_numbers : {A B : Type 0} (p : Parser A) (f : A → Parser B) → Numbers P p → ((a : A) → Numbers P (f a)) → Numbers P (p >>= f)
  unfolding ◌>>=◌
  bind_numbers {A} {B} p f h g s l = go (p s l) (h s l)
    where
      further : (x : Parsed B) (n m k j : ℕ) → NumberIn P n m x → m + n ≤ k + j → NumberIn P k j x
      further (good b r i) n m k j q e = omega arith
      further (fault i x) n m k j q e = (q.0, omega arith)

      go : (x : Parsed A) → NumberIn P (length s) l x → NumberIn {A = B} P (length s) l (elim x [ good a r m ↦ f a r m | fault n m ↦ fault n m ])
      go (good a r m) q = further (f a r m) (length r) m (length s) l (g a r m) (omega arith)
      go (fault n m) q = q

  -- a parser that reads nothing and returns a value has no fault at all
  pub return_numbers : {A : Type 0} (a : A) → Numbers P (return a)
  unfolding return
  return_numbers a s l = omega arith

  -- a line that may be missing has fault 2 or 3, as a row has
  pub optional_numbers : P 2 → P 3 → (key : List ℕ) (lo hi : ℕ) → Numbers P (optional_at key lo hi)
  unfolding optional_at
  optional_numbers two three key lo hi s l = go (starts_with key s)
    where
      go : (t : Bool) → NumberIn {A = Option ℕ} P (length s) l (elim t [ true ↦ (row_at key lo hi >>= λ v. return (Some v)) s l | false ↦ good None s l ])
      go true = bind_numbers (row_at key lo hi) _ (row_numbers two three key lo hi) (λ v. return_numbers (Some v)) s l
      go false = omega arith

  -- what follows a line only where that is present has the fault numbers of its own parser
  pub present_numbers : {A B : Type 0} (f : A → Parser B) → ((a : A) → Numbers P (f a)) → (o : Option A) → Numbers P (if_present f o)
  unfolding if_present
  present_numbers f h None = return_numbers None
  present_numbers f h (Some a) = bind_numbers (f a) _ (h a) (λ b. return_numbers (Some b))

  -- a parser repeated with a state has no fault numbers but its own
  pub chain_numbers : {A S : Type 0} (p : S → Parser A) (next : S → A → S) → ((k : S) → Numbers P (p k)) → (n : ℕ) (before : S) → Numbers P (chain p next n before)
  unfolding chain
  chain_numbers p next h zero before = return_numbers []
  chain_numbers p next h (suc n) before =
      bind_numbers (p before) _ (h before) (λ a. bind_numbers (chain p next n (next before a)) _ (chain_numbers p next h n (next before a)) (λ rest. return_numbers (a ∷ rest)))

  -- a parser repeated a number of times has no fault numbers but its own
  pub times_numbers : {A : Type 0} (n : ℕ) (p : Parser A) → Numbers P p → Numbers P (times n p)
  unfolding times
  times_numbers n p h = chain_numbers {S = ℕ} (λ _. p) (λ _ _. 0) (λ _. h) n 0

  end_numbers : P 2 → Numbers P ends
  unfolding ends
  end_numbers two [] l = omega arith
  end_numbers two (b ∷ s) l = (two, omega arith)

  -- the number and the line of a refused text's fault
  pub refused_fault : {A : Type 0} (most : ℕ) (p : Parser A) → P 1 → P 2 → Numbers P p → (s : List ℕ) (n l : ℕ) → read_text most p s ≡ refused n l → P n × (l ≤ most + 1)
  unfolding read_text whole
  refused_fault {A} most p one two h s n l e = go (leb (length s) most) refl
    where
      done : length s ≤ most → (x : Parsed A) → NumberIn P (length s) 1 x → finish x ≡ refused n l → P n × (l ≤ most + 1)
      done few (good a r m) q f = not_both refl f
      done few (fault k m) q f =
          let y = one_fault refl f in
          (subst P y.0 q.0, omega (arith, q.1, y.1))

      go : (t : Bool) → leb (length s) most ≡ t → P n × (l ≤ most + 1)
      go true t =
          done (leb-true _ _ t) (whole p s 1)
          (bind_numbers p _ h (λ a. bind_numbers ends _ (end_numbers two) (λ _. return_numbers a)) s 1)
          (rw (read_text, t) at e)
      go false t =
          let y = one_fault {n = 1} {l = 0} (rw (read_text, t)) e in
          (subst P y.0 one, omega (arith, y.1))
