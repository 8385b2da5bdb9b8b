-- Laws of the parsers, and of the code's readers in their terms.
use Rattle.std.specs.Prelude.{Some, None, Result, Ok, Err}
use Prim.Native.Nat.{ℕ, suc, ◌+◌, ◌-◌, ◌≤◌, ◌<◌}
use mathlib.Core.Path.{◌≡◌, refl, sym, ap, ◌∙◌}
use mathlib.Core.List.{List, [], ◌∷◌, ◌++◌, append_assoc, append-nil}
use mathlib.Core.Bool.{Bool, true, false, ◌&&◌, true≢false}
use native.Mathlib.Omega.{arith}
use native.Mathlib.Nat.{sub-zero}
use lib.ListN.{length}
use lib.Dec.{eqb}
use borrow.Author.Tests.{eqb-true, le-leb, lt-leb, lt-ltb}
use Rattle.lines.specs.Parser.{Parsed, good, fault, Parser, ◌>>=◌, return, read_field_lem, taken, row_at, optional_at, checked, chain, end as ends, rising, up_to, refused, finish, whole, read_text}
use Rattle.lines.specs.Line.{starts_with}
use Rattle.lines.specs.Fault.{number_of_lem}
use Rattle.lines.specs.Reads.{Reads, fault_at, closed, outcome, seen}
use Rattle.lines.specs.declared.fault.Fault.{Fault}
use Rattle.lines.specs.declared.fault.FaultKind.{FaultKind}
use Rattle.lines.specs.declared.fault.FaultKind.TheVariants.{Form}
use Rattle.lines.specs.declared.rows.Lines.{Lines}
use Rattle.lines.proofs.Reading.{InField, field_in}

-- the first of two parsers decides
pub bind_good : {A B : Type 0} (p : Parser A) (f : A → Parser B) {s s' : List ℕ} {l l' : ℕ} {a : A} → p s l ≡ good a s' l' → (p >>= f) s l ≡ f a s' l'
unfolding ◌>>=◌
bind_good p f e = rw (◌>>=◌, e)

-- a fault of the first of two parsers is the fault of both
pub bind_fault : {A B : Type 0} (p : Parser A) (f : A → Parser B) {s : List ℕ} {l n m : ℕ} → p s l ≡ fault n m → (p >>= f) s l ≡ fault n m
unfolding ◌>>=◌
bind_fault p f e = rw (◌>>=◌, e)

-- a row's value is in its range
abbrev pub InRow : ℕ → ℕ → Parsed ℕ → Type 0
InRow lo hi (good v s l) = (lo ≤ v) × (v ≤ hi)
InRow lo hi (fault n l) = Unit {0}

-- the value that a row gives lies from lo to hi
pub row_in : (key : List ℕ) (lo hi : ℕ) (s : List ℕ) (l : ℕ) → InRow lo hi (row_at key lo hi s l)
unfolding row_at taken
row_in key lo hi s l = go (read_field_lem key lo hi s) (field_in key s lo hi)
  where
    go : (f : Result (ℕ × ℕ) ℕ) → InField lo hi (length s) f → InRow lo hi (taken s l f)
    go (Ok (v, n)) h = (h.2, h.3)
    go (Err k) h = tt

-- a line that may be missing, by whether its key stands there
module _ (key : List ℕ) (lo hi : ℕ) (s : List ℕ) (l : ℕ) where
  -- where the text starts with the key, a line that may be missing is read as a row
  pub optional_there : starts_with key s ≡ true → optional_at key lo hi s l ≡ (row_at key lo hi >>= λ v. return (Some v)) s l
  unfolding optional_at
  optional_there e = rw (optional_at, e)

  -- where the text doesn't start with the key, the line is missing and nothing is read
  pub optional_missing : starts_with key s ≡ false → optional_at key lo hi s l ≡ good None s l
  unfolding optional_at
  optional_missing e = rw (optional_at, e)

-- a further rule
module _ {A : Type 0} (k : ℕ) (ok : A → Bool) (p : Parser A) (s : List ℕ) (l : ℕ) where
  -- a value that passes the further rule is given as without the rule
  pub checked-good : {v : A} {l' : ℕ} {s' : List ℕ} → p s l ≡ good v s' l' → ok v ≡ true → checked k ok p s l ≡ good v s' l'
  unfolding checked
  checked-good e t = rw (checked, e, t)

  -- a value that breaks the further rule is fault k on the line where it began
  pub checked_not : {v : A} {l' : ℕ} {s' : List ℕ} → p s l ≡ good v s' l' → ok v ≡ false → checked k ok p s l ≡ fault k l
  unfolding checked
  checked_not e t = rw (checked, e, t)

  -- a fault of the line itself comes before the further rule
  pub checked-fault : {n m : ℕ} → p s l ≡ fault n m → checked k ok p s l ≡ fault n m
  unfolding checked
  checked-fault e = rw (checked, e)

-- two rules of one fault, the one after the other, are both together
pub checked_twice : {A : Type 0} (k : ℕ) (ok also : A → Bool) (p : Parser A) (s : List ℕ) (l : ℕ) → checked k (λ v. ok v && also v) p s l ≡ checked k also (checked k ok p) s l
unfolding checked
checked_twice {A} k ok also p s l = go (p s l)
  where
    pick : (t : Bool) (v : A) (r : List ℕ) (m : ℕ) → ◌≡◌ {A = Parsed A} (elim (t && also v) [ true ↦ good v r m | false ↦ fault k l ]) (elim (elim t as (λ _. Parsed A) [ true ↦ good v r m | false ↦ fault k l ]) [ good w x y ↦ elim (also w) [ true ↦ good w x y | false ↦ fault k l ] | fault n y ↦ fault n y ])
    pick true v r m = refl
    pick false v r m = refl

    go : (x : Parsed A) → ◌≡◌ {A = Parsed A} (elim x [ good v r m ↦ elim (ok v && also v) [ true ↦ good v r m | false ↦ fault k l ] | fault n m ↦ fault n m ]) (elim (elim x as (λ _. Parsed A) [ good v r m ↦ elim (ok v) [ true ↦ good v r m | false ↦ fault k l ] | fault n m ↦ fault n m ]) [ good w x y ↦ elim (also w) [ true ↦ good w x y | false ↦ fault k l ] | fault n y ↦ fault n y ])
    go (good v r m) = pick (ok v) v r m
    go (fault n m) = refl

-- a value after the one before and within the limit passes the rising rule
pub rising_yes : (b h v : ℕ) → b < v → v ≤ h → rising b h v ≡ true
rising_yes b h v l m = simp (lt-ltb b v l, le-leb v h m)

-- a value of at most m passes the rule of an upper limit
pub up_to_yes : (m v : ℕ) → v ≤ m → up_to m v ≡ true
up_to_yes m v h = le-leb v m h

-- what was read before goes in front
abbrev pub behind : {A : Type 0} → List A → Parsed (List A) → Parsed (List A)
behind xs (good ys s l) = good (xs ++ ys) s l
behind xs (fault n l) = fault n l

-- a loop over a chain: one more, a fault, and the end. i of n are read, in xs
module _ {A S : Type 0} (p : S → Parser A) (next : S → A → S) (n i : ℕ) (xs : List A) (prev : S) (s : List ℕ) (l : ℕ) where
  later : i < n → n - i ≡ suc (n - (i + 1))
  later h = omega arith

  -- reading one value more of a chain leaves the chain's answer, with the value put behind those before
  pub chain_more : {a : A} {s' : List ℕ} {l' : ℕ} {ys : List A} → i < n → p prev s l ≡ good a s' l' → ys ≡ xs ++ a ∷ []
      → behind xs (chain p next (n - i) prev s l) ≡ behind ys (chain p next (n - (i + 1)) (next prev a) s' l')
  unfolding chain return
  chain_more {a} {s'} {l'} {ys} h e f =
      ap (λ (k : ℕ). behind xs (chain p next k prev s l)) (later h)
      ∙ ap (behind xs) (bind_good (p prev) _ e)
      ∙ after_one (chain p next (n - (i + 1)) (next prev a) s' l') refl
      ∙ ap (λ (zs : List A). behind zs (chain p next (n - (i + 1)) (next prev a) s' l')) (sym f)
    where
      after_one : (y : Parsed (List A)) → chain p next (n - (i + 1)) (next prev a) s' l' ≡ y
          → behind xs ((chain p next (n - (i + 1)) (next prev a) >>= λ rest. return (a ∷ rest)) s' l') ≡ behind (xs ++ a ∷ []) y
      after_one (good ys t m) q = ap (behind xs) (bind_good _ _ q) ∙ ap (λ (zs : List A). good zs t m) (sym (append_assoc xs (a ∷ []) ys))
      after_one (fault k m) q = ap (behind xs) (bind_fault _ _ q)

  -- a fault at the next value is the fault of the whole chain
  pub chain-fault : {k m : ℕ} → i < n → p prev s l ≡ fault k m → behind xs (chain p next (n - i) prev s l) ≡ fault k m
  unfolding chain
  chain-fault h e = ap (λ (k : ℕ). behind xs (chain p next k prev s l)) (later h) ∙ ap (behind xs) (bind_fault (p prev) _ e)

  -- once all n values are read, the chain's answer is these values and the text left
  pub chain_end : n ≤ i → behind xs (chain p next (n - i) prev s l) ≡ good xs s l
  unfolding chain return
  chain_end h =
      let z : n - i ≡ 0 = omega arith in
      ap (λ (k : ℕ). behind xs (chain p next k prev s l)) z
      ∙ ap (λ (zs : List A). good zs s l) (append-nil xs)

-- before anything is read, a chain's answer is its own with nothing put in front
pub chain_start : {A S : Type 0} (p : S → Parser A) (next : S → A → S) (n : ℕ) (prev : S) (s : List ℕ) (l : ℕ) → chain p next n prev s l ≡ behind [] (chain p next (n - 0) prev s l)
chain_start {A} p next n prev s l = rw sub-zero (same (chain p next n prev s l))
  where
    same : (y : Parsed (List A)) → y ≡ behind [] y
    same (good a t m) = refl
    same (fault k m) = refl

-- a text that is too long, and one that is not
pub text_long : {A : Type 0} (most : ℕ) (p : Parser A) (s : List ℕ) → most < length s → refused 1 0 ≡ read_text most p s
unfolding read_text
text_long most p s h = rw (read_text, lt-leb (length s) most h)

-- a text that is not too long is read as its lines with nothing behind them
pub text_fits : {A : Type 0} (most : ℕ) (p : Parser A) (s : List ℕ) → length s ≤ most → finish (whole p s 1) ≡ read_text most p s
unfolding read_text
text_fits most p s h = rw (read_text, le-leb (length s) most h)

-- ---- the code's readers, step by step

-- a first reader p, which leaves m, and then one of its value
module _ {A B : Type 0} (p : Parser A) (f : A → Parser B) (b m a : Lines) where
  -- a fault of the first is the whole's
  pub stopped : (e : Fault) → Reads p b m (Err e) → Reads (p >>= f) b a (Err e)
  stopped e h = sym (bind_fault p f (sym h))

  -- a value of the first is handed on
  pub went_on : (x : A) (r : Result B Fault) → Reads p b m (Ok x) → Reads (f x) m a r → Reads (p >>= f) b a r
  went_on x r h k = k ∙ sym (bind_good p f (sym h))

-- a value that is put into another
pub put_into : {A B : Type 0} (f : A → B) (p : Parser A) (b a : Lines) (r : Result A Fault) → Reads p b a r → Reads (p >>= λ x. return (f x)) b a (seen f r)
unfolding return
put_into f p b a (Ok x) h = sym (bind_good p _ (sym h))
put_into f p b a (Err e) h = sym (bind_fault p _ (sym h))

-- a further rule `ok` of what p reads
module _ {A : Type 0} (kind : FaultKind) (ok : A → Bool) (p : Parser A) (b m a : Lines) where
  -- a fault of p itself comes first
  pub unread : (e : Fault) → Reads p b m (Err e) → Reads (checked (number_of_lem kind) ok p) b a (Err e)
  unread e h = sym (checked-fault _ ok p _ _ (sym h))

  -- a value that keeps the rule is read as without it
  pub ruled : (x : A) → Reads p b a (Ok x) → ok x ≡ true → Reads (checked (number_of_lem kind) ok p) b a (Ok x)
  ruled x h t = sym (checked-good _ ok p _ _ (sym h) t)

  -- a value that breaks it is a fault of this kind on the line where p began
  pub broken : (x : A) → Reads p b m (Ok x) → ok x ≡ false → Reads (checked (number_of_lem kind) ok p) b a (Err (record { kind = kind; line = b.line }))
  broken x h t = sym (checked_not (number_of_lem kind) ok p _ _ (sym h) t)

-- a row of a key with a range, by its line: what is left of the text behind it
module _ (key : List ℕ) (lo hi : ℕ) (b a : Lines) where
  -- where the key stands, a line that may be missing is read as a row: a value is there
  pub optional_value : (v : ℕ) → starts_with key b.rest.now ≡ true → Reads (row_at key lo hi) b a (Ok v) → Reads (optional_at key lo hi) b a (Ok (Some v))
  unfolding return
  optional_value v t h = put_into Some (row_at key lo hi) b a (Ok v) h ∙ sym (optional_there key lo hi _ _ t)

  -- and a fault of the row is its own
  pub optional_fault : (e : Fault) → starts_with key b.rest.now ≡ true → Reads (row_at key lo hi) b a (Err e) → Reads (optional_at key lo hi) b a (Err e)
  unfolding return
  optional_fault e t h = put_into Some (row_at key lo hi) b a (Err e) h ∙ sym (optional_there key lo hi _ _ t)

-- at the end of a text nothing is left
pub nothing_left : (left : Lines) → eqb (length left.rest.now) 0 ≡ true → closed left (Ok tt) ≡ ends left.rest.now left.line
unfolding ends
nothing_left left h = go left.rest.now (eqb-true _ _ h)
  where
    go : (s : List ℕ) → length s ≡ 0 → good tt [] left.line ≡ ends s left.line
    go [] e = refl
    go (x ∷ s) e = absurd (omega arith)

-- bytes behind the last line are a fault of form on the line after it
pub more_left : (left : Lines) → eqb (length left.rest.now) 0 ≡ false → closed left (Err (fault_at left Form)) ≡ ends left.rest.now left.line
unfolding ends
more_left left h = go left.rest.now h
  where
    go : (s : List ℕ) → eqb (length s) 0 ≡ false → fault 2 left.line ≡ ends s left.line
    go [] e = absurd (true≢false e)
    go (x ∷ s) e = refl

-- a whole text: what its lines give, and then its end
module _ {A : Type 0} (p : Parser A) (s : List ℕ) (b m : Lines) (whole_text : b.rest.now ≡ s) (first : b.line ≡ 1) where
  -- a fault of the lines is the text's
  pub whole_fault : (e : Fault) → Reads p b m (Err e) → outcome {A = A} (Err e) ≡ finish (whole p s 1)
  unfolding whole
  whole_fault e h = ap finish (sym (bind_fault p _ (sym (rw (whole_text, first) at h))))

  -- bytes behind the last line are the text's fault
  pub whole_more : (x : A) (e : Fault) → Reads p b m (Ok x) → closed m (Err e) ≡ ends m.rest.now m.line → outcome {A = A} (Err e) ≡ finish (whole p s 1)
  unfolding whole
  whole_more x e h k = ap finish (sym (bind_good p _ (sym (rw (whole_text, first) at h)) ∙ bind_fault ends _ (sym k)))

  -- lines with nothing behind them are the text
  pub whole_value : (x : A) → Reads p b m (Ok x) → closed m (Ok tt) ≡ ends m.rest.now m.line → outcome (Ok x) ≡ finish (whole p s 1)
  unfolding whole return
  whole_value x h k = ap finish (sym (bind_good p _ (sym (rw (whole_text, first) at h)) ∙ bind_good ends _ (sym k)))
