-- Further laws of the code's readers, step by step: a value that was read and matched on, a counted row of values, and the place of the first that passes a test.
use Rattle.std.specs.Prelude.{Some, None, cond, Result, Ok, Err}
use Rattle.std.specs.Option.{unwrap_or}
use Prim.Native.Nat.{ℕ, ◌+◌, ◌-◌, ◌≤◌, ◌<◌}
use mathlib.Core.Path.{◌≡◌, refl, sym, ◌∙◌}
use mathlib.Core.List.{List, [], ◌∷◌, ◌++◌}
use mathlib.Core.Bool.{Bool, true, false}
use native.Mathlib.Omega.{arith}
use lib.Dec.{ltb}
use borrow.Author.Tests.{ltb-false}
use Rattle.lines.specs.Parser.{Parser, ◌>>=◌, return, optional_at, chain}
use Rattle.lines.specs.Reads.{Reads}
use Rattle.lines.specs.declared.fault.Fault.{Fault}
use Rattle.lines.specs.declared.rows.Lines.{Lines}
use Rattle.lines.proofs.Sound.{optional_inv, row_gives}
use Rattle.lines.proofs.Parsing.{went_on, put_into, behind, chain_start, chain_more, chain-fault, chain_end}

-- a value y of the first reader, which is x, is handed on
pub went_to : {A B : Type 0} (p : Parser A) (f : A → Parser B) (b m a : Lines) (x y : A) (r : Result B Fault) → y ≡ x → Reads p b m (Ok y) → Reads (f x) m a r → Reads (p >>= f) b a r
went_to p f b m a x y r e h k = went_on p f b m a x r (rw e at h) k

-- a value that is put into another
pub put_value : {A B : Type 0} (f : A → B) (p : Parser A) (b a : Lines) (x : A) → Reads p b a (Ok x) → Reads (p >>= λ x. return (f x)) b a (Ok (f x))
put_value f p b a x h = put_into f p b a (Ok x) h

-- a line that was there, which could be missing, has its value in its range
pub there_within : (key : List ℕ) (lo hi : ℕ) (b a : Lines) (v : ℕ) → Reads (optional_at key lo hi) b a (Ok (Some v)) → (lo ≤ v) × (v ≤ hi)
there_within key lo hi b a v h = row_gives key lo hi _ _ _ _ v (optional_inv key lo hi _ _ _ _ (Some v) (sym h))

-- ---- a counted row

-- of n values, read from `b` on, the first i are read, in xs; the next one is read at `m`, in the state `prev`
pub record Chained {A S : Type 0} (p : S → Parser A) (next : S → A → S) (n i : ℕ) (xs : List A) (start prev : S) (b m : Lines) : Type 0 where
  pub so : chain p next n start b.rest.now b.line ≡ behind xs (chain p next (n - i) prev m.rest.now m.line)

-- before the first value nothing is read
pub chain_none : {A S : Type 0} (p : S → Parser A) (next : S → A → S) (n : ℕ) (xs : List A) (start : S) (b : Lines) → xs ≡ [] → Chained p next n 0 xs start start b b
chain_none p next n xs start b e = rw e (record { so = chain_start p next n start _ _ })

module _ {A S : Type 0} {p : S → Parser A} {next : S → A → S} {n i : ℕ} {xs : List A} {start prev : S} {b m : Lines} (before : Chained p next n i xs start prev b m) where
  -- one value more
  pub chain_next : (a : Lines) (x : A) (ys : List A) → i < n → Reads (p prev) m a (Ok x) → ys ≡ xs ++ x ∷ [] → Chained p next n (i + 1) ys start (next prev x) b a
  chain_next a x ys h r e = record { so = before.so ∙ chain_more p next n i xs prev _ _ h (sym r) e }

  -- a fault of the next value is that of all
  pub chain_stopped : (a : Lines) (e : Fault) → i < n → Reads (p prev) m a (Err e) → Reads (chain p next n start) b a (Err e)
  chain_stopped a e h r = sym (before.so ∙ chain-fault p next n i xs prev _ _ h (sym r))

  -- all are read
  pub chain_done : (ys : List A) → i ≡ n → ys ≡ xs → Reads (chain p next n start) b m (Ok ys)
  chain_done ys h e = rw e (sym (before.so ∙ chain_end p next n i xs prev _ _ (omega (arith, h))))

-- ---- a search

-- the place of the first that passes a test, or the number of all where none does
pub first_or_all : (p n : ℕ) → p ≤ n → unwrap_or (cond (ltb p n) (Some p) None) n ≡ p
first_or_all p n l = go (ltb p n) refl
  where
    go : (t : Bool) → ltb p n ≡ t → unwrap_or (cond t (Some p) None) n ≡ p
    go true e = refl
    go false e = omega (arith, l, ltb-false p n e)
