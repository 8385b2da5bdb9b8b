-- What is written for a value is read back as that value or is a fault, whatever the value, and two texts that differ only in what is never read give the same (`Readback`). By the parsers' forms: row, checked, bind, chain.
use Prim.Native.Nat.{ℕ, ◌+◌, ◌^◌, ◌<◌}
use mathlib.Core.Path.{◌≡◌, refl, ap, ◌∙◌}
use mathlib.Core.List.{List, [], ◌∷◌, ◌++◌, append_assoc}
use mathlib.Core.Bool.{Bool, true, false}
use native.Mathlib.Omega.{arith}
use native.Mathlib.Decide.{dec_lt}
use lib.ListN.{length}
use Rattle.lines.specs.Parser.{Parsed, good, fault, Parser, ◌>>=◌, return, row_at, checked, chain}
use Rattle.lines.specs.Text.{line, texts}
use Rattle.lines.proofs.Parsing.{bind_good, bind_fault, checked-good, checked_not, checked-fault}
use Rattle.lines.proofs.ValueLines.{value_in, value_low, value_high}
use Rattle.base.specs.Each.{Chained}

-- the parser's answers x and y to two texts are both the value a, with s and with t behind it, and then G holds; or they are the same fault, whose number has F
pub data Readback {A : Type 0} (F : ℕ → Type 0) (G : Type 0) (a : A) (s t : List ℕ) (x y : Parsed A) : Type 0 where
  back : G → (l : ℕ) → x ≡ good a s l → y ≡ good a t l → Readback F G a s t x y
  broken : (n m : ℕ) → F n → x ≡ fault n m → y ≡ fault n m → Readback F G a s t x y

module _ {A : Type 0} {F : ℕ → Type 0} {G : Type 0} {a : A} {s t : List ℕ} {x y x' y' : Parsed A} where
  -- answers that are the same as two that read back, or fail alike, do so themselves
  pub same_back : x' ≡ x → y' ≡ y → Readback F G a s t x y → Readback F G a s t x' y'
  same_back e f (back g l h i) = back g l (e ∙ h) (f ∙ i)
  same_back e f (broken n m w h i) = broken n m w (e ∙ h) (f ∙ i)

-- one parser and then another
pub bind_back : {A B : Type 0} {F : ℕ → Type 0} {G H : Type 0} (p : Parser A) (f : A → Parser B) {u v s t s' t' : List ℕ} {l : ℕ} {a : A} {b : B}
    → Readback F G a s t (p u l) (p v l) → (G → (l' : ℕ) → Readback F H b s' t' (f a s l') (f a t l')) → Readback F H b s' t' ((p >>= f) u l) ((p >>= f) v l)
bind_back p f (back g l h i) k = same_back (bind_good p f h) (bind_good p f i) (k g l)
bind_back p f (broken n m w h i) k = broken n m w (bind_fault p f h) (bind_fault p f i)

-- a value returned without reading leaves what is behind each of the two texts
pub return_back : {A : Type 0} {F : ℕ → Type 0} {G : Type 0} (a : A) (s t : List ℕ) (l : ℕ) → G → Readback F G a s t (return a s l) (return a t l)
unfolding return
return_back a s t l g = back g l refl refl

module _ (F : ℕ → Type 0) where
  -- the line of a value is read back as the value, or is fault 3 in both texts
  pub row_back : F 3 → (key : List ℕ) (lo hi v : ℕ) → v < 10 ^ 10 → (s t : List ℕ) (l : ℕ) → Readback F (Unit {0}) v s t (row_at key lo hi (line key v ++ s) l) (row_at key lo hi (line key v ++ t) l)
  row_back f key lo hi v few s t l = go (dec_lt v lo) (dec_lt hi v)
    where
      go : Dec (v < lo) → Dec (hi < v) → Readback F (Unit {0}) v s t (row_at key lo hi (line key v ++ s) l) (row_at key lo hi (line key v ++ t) l)
      go (yes h) d = broken 3 l f (value_low key lo hi v few s l h) (value_low key lo hi v few t l h)
      go (no h) (yes g) = broken 3 l f (value_high key lo hi v few s l (omega (arith, h)) g) (value_high key lo hi v few t l (omega (arith, h)) g)
      go (no h) (no g) = back tt (l + 1) (value_in key lo hi v few s l (omega (arith, h)) (omega (arith, g))) (value_in key lo hi v few t l (omega (arith, h)) (omega (arith, g)))

  -- with a further rule, a value is read back or is the same fault in both texts
  pub checked_back : (k : ℕ) → F k → (ok : ℕ → Bool) (p : Parser ℕ) (v : ℕ) {x y s t : List ℕ} (l : ℕ) → Readback F (Unit {0}) v s t (p x l) (p y l) → Readback F (Unit {0}) v s t (checked k ok p x l) (checked k ok p y l)
  checked_back k f ok p v {x} {y} {s} {t} l (back g m h i) = go (ok v) refl
    where
      go : (b : Bool) → ok v ≡ b → Readback F (Unit {0}) v s t (checked k ok p x l) (checked k ok p y l)
      go true e = back tt m (checked-good k ok p x l h e) (checked-good k ok p y l i e)
      go false e = broken k l f (checked_not k ok p x l h e) (checked_not k ok p y l i e)
  checked_back k f ok p v {x} {y} {s} {t} l (broken n m w h i) = broken n m w (checked-fault k ok p x l h) (checked-fault k ok p y l i)

  -- as many as there are
  pub chain_back : {A : Type 0} (p : ℕ → Parser A) (next : ℕ → A → ℕ) (w : A → List ℕ) (P : A → Type 0)
      → ((prev : ℕ) (a : A) → P a → (s t : List ℕ) (l : ℕ) → Readback F (Unit {0}) a s t (p prev (w a ++ s) l) (p prev (w a ++ t) l))
      → (prev : ℕ) (xs : List A) → Chained (λ _. P) next prev xs → (s t : List ℕ) (l : ℕ)
      → Readback F (Unit {0}) xs s t (chain p next (length xs) prev (texts w xs ++ s) l) (chain p next (length xs) prev (texts w xs ++ t) l)
  unfolding chain
  chain_back p next w P c prev [] h s t l = return_back [] s t l tt
  chain_back p next w P c prev (x ∷ xs) h s t l =
      same_back (ap (λ (r : List ℕ). chain p next (length (x ∷ xs)) prev r l) (append_assoc (w x) (texts w xs) s)) (ap (λ (r : List ℕ). chain p next (length (x ∷ xs)) prev r l) (append_assoc (w x) (texts w xs) t))
      (bind_back (p prev) _ (c prev x h.0 (texts w xs ++ s) (texts w xs ++ t) l) (λ _ m.
      bind_back (chain p next (length xs) (next prev x)) _ (chain_back p next w P c (next prev x) xs h.1 s t m) (λ _ k. return_back (x ∷ xs) s t k tt)))
