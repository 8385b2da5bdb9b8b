-- A parser and what is written for its values, both ways: what it reads is what is written for a value that is known, and that is read back (`Exact`). By the parsers' forms: row, checked, chain, return, bind.
use Prim.Native.Nat.{ℕ, ◌≤◌, ◌<◌, ◌^◌}
use mathlib.Core.Path.{◌≡◌, sym, ap, ◌∙◌, subst}
use mathlib.Core.List.{List, [], ◌++◌, append_assoc}
use mathlib.Core.Bool.{Bool, true}
use lib.ListN.{length}
use Rattle.lines.specs.Text.{line, texts}
use Rattle.lines.specs.Parser.{Parser, good, ◌>>=◌, return, row_at, checked, chain}
use Rattle.lines.proofs.Parsing.{bind_good}
use Rattle.lines.proofs.Sound.{Tells, bind_inv, row_sound, row_gives, checked_sound, checked_gives, chain_sound, chain_gives}
use Rattle.base.specs.Each.{Chained}
use Rattle.lines.proofs.Complete.{Complete, row_complete, checked_complete, chain_complete}

-- what is known of a value is P, what is written for it is w, and it is read back where what stands behind it is as Next says
pub record Exact {A : Type 0} (Next : List ℕ → Type 0) (p : Parser A) (P : A → Type 0) (w : A → List ℕ) : Type 0 where
  -- what the parser accepts has P, and is what is written for its value
  pub tells : Tells p P w
  pub back : (a : A) → P a → (s : List ℕ) (l : ℕ) → Next s → (l' : ℕ) × (p (w a ++ s) l ≡ good a s l')

-- anything may stand behind it
abbrev pub Any : List ℕ → Type 0
Any s = Unit {0}

-- the two laws of a parser that anything may stand behind
pub exactly : {A : Type 0} (p : Parser A) (P : A → Type 0) (w : A → List ℕ) → Tells p P w → Complete p w P → Exact Any p P w
exactly p P w t c = record { tells = t; back = λ a k s l _. c a k s l }

-- a row reads exactly the lines of values from lo to hi, and reads these back
pub row_exact : (key : List ℕ) (lo hi : ℕ) → hi < 10 ^ 10 → Exact Any (row_at key lo hi) (λ v. (lo ≤ v) × (v ≤ hi)) (line key)
row_exact key lo hi few =
    exactly (row_at key lo hi) _ (line key) (λ s s' l l' v e. record { known = row_gives key lo hi s s' l l' v e; text = row_sound key lo hi s s' l l' v e }) (row_complete key lo hi few)

-- with a further rule a parser reads exactly the values that pass it, and reads these back
pub checked_exact : (k : ℕ) (ok : ℕ → Bool) (p : Parser ℕ) (P : ℕ → Type 0) (w : ℕ → List ℕ) → Exact Any p P w → Exact Any (checked k ok p) (λ v. P v × (ok v ≡ true)) w
checked_exact k ok p P w x =
    exactly (checked k ok p) _ w
    (λ s s' l l' v e. record {
      known = checked_gives k ok p P (λ s s' l l' v e. (x.tells s s' l l' v e).known) s s' l l' v e;
      text = checked_sound k ok p w (λ s s' l l' v e. (x.tells s s' l l' v e).text) s s' l l' v e;
    })
    (checked_complete k ok p w P (λ v h s l. x.back v h s l tt))

-- a repeated parser reads exactly the texts of its values one behind the other, and reads these back
pub chain_exact : {A : Type 0} (p : ℕ → Parser A) (next : ℕ → A → ℕ) (P : ℕ → A → Type 0) (w : A → List ℕ) → ((k : ℕ) → Exact Any (p k) (P k) w)
    → (n k : ℕ) → Exact Any (chain p next n k) (λ xs. (length xs ≡ n) × Chained P next k xs) (texts w)
chain_exact p next P w x n k =
    exactly (chain p next n k) _ (texts w)
    (λ s s' l l' xs e. record {
      known = chain_gives p next P (λ j s s' l l' a e. ((x j).tells s s' l l' a e).known) n k s s' l l' xs e;
      text = chain_sound p next w (λ j s s' l l' a e. ((x j).tells s s' l l' a e).text) n k s s' l l' xs e;
    })
    (λ xs h s l. subst (λ (m : ℕ). (l' : ℕ) × (chain p next m k (texts w xs ++ s) l ≡ good xs s l')) h.0 (chain_complete p next w P (λ j a h s l. (x j).back a h s l tt) k xs h.1 s l))

-- nothing is read
pub return_exact : {A : Type 0} (a : A) → Exact Any (return a) (λ b. a ≡ b) (λ b. [])
unfolding return
return_exact {A} a = exactly (return a) _ _ (λ s s' l l' b e. record { known = cc; text = cc }) (λ b e s l. (l, ap (λ (x : A). good x s l) e))

-- first p and then f, whose value c has p's as `first c`
pub bind_exact : {A C : Type 0} (first : C → A) (Next : List ℕ → Type 0) (p : Parser A) (f : A → Parser C) (P : A → Type 0) (R : A → C → Type 0) (w : A → List ℕ) (v : C → List ℕ)
    → Exact Next p P w → ((a : A) → P a → Exact Any (f a) (R a) v) → ((a : A) (c : C) → R a c → first c ≡ a) → ((c : C) (s : List ℕ) → Next (v c ++ s))
    → Exact Any (p >>= f) (λ c. P (first c) × R (first c) c) (λ c. w (first c) ++ v c)
bind_exact {A} first Next p f P R w v one more is next = record {
  tells = λ s s' l l' c e.
      let b = bind_inv p f s s' l l' c e in
      let x = one.tells s b.mid l b.at b.a b.first in
      let y = (more b.a x.known).tells b.mid s' b.at l' c b.second in
      let same : b.a ≡ first c = sym (is b.a c y.known) in
      record {
        known = (subst P same x.known, subst (λ (a : A). R a c) same y.known);
        text = x.text ∙ ap (λ (a : A). w a ++ b.mid) same ∙ ap (λ (r : List ℕ). w (first c) ++ r) y.text ∙ sym (append_assoc (w (first c)) (v c) s');
      };
  back = λ c k s l _.
      let x = one.back (first c) k.0 (v c ++ s) l (next c s) in
      let y = (more (first c) k.0).back c k.1 s x.0 tt in
      (y.0, ap (λ (r : List ℕ). (p >>= f) r l) (append_assoc (w (first c)) (v c) s) ∙ bind_good p f x.1 ∙ y.1);
}

-- what is known and what is written, said in other words
pub exact_as : {A : Type 0} {Next : List ℕ → Type 0} {p : Parser A} (P Q : A → Type 0) (w v : A → List ℕ)
    → Exact Next p P w → ((a : A) → P a → Q a) → ((a : A) → Q a → P a) → ((a : A) → w a ≡ v a) → Exact Next p Q v
exact_as {A} {Next} {p} P Q w v x there back same = record {
  tells = λ s s' l l' a e. let t = x.tells s s' l l' a e in record { known = there a t.known; text = t.text ∙ ap (λ (r : List ℕ). r ++ s') (same a) };
  back = λ a q s l next. let b = x.back a (back a q) s l next in (b.0, ap (λ (r : List ℕ). p (r ++ s) l) (sym (same a)) ∙ b.1);
}
