-- Lists cut at a place: a set of openings that is one set up to there and another behind it. By recursion over the first.
use mathlib.Core.Path.{◌≡◌, refl, sym, ap, ◌∙◌}
use mathlib.Core.Bool.{Bool, true, false, false≢true}
use mathlib.Core.List.{List, [], ◌∷◌, ◌++◌, map, append-nil}
use mathlib.Core.Logic.{◌⊎◌, inl, inr, ⊎_elim}
use Prim.Native.Nat.{ℕ, zero, suc, ◌+◌, ◌<◌}
use native.Mathlib.Nat.{zero-add, suc-add}
use native.Mathlib.Omega.{arith}
use lib.ListN.{length, get_or, take, drop, take-append-drop, get_or-append}
use lib.Seq.{get_or-append-add, get_or-drop, drop-append_seam}
use Rattle.branch.specs.Search.{Before, here, there}
use Rattle.model.specs.Model.{select, table, sum_at, sum}
use Rattle.model.proofs.Offers.{sum_none}
use Rattle.model.proofs.Lists.{table_same}
use Rattle.model.proofs.Sums.{sum_same, sum_shift}
use Rattle.model.proofs.NoHolders.{select_off}
use Rattle.model.proofs.MoreChanges.{select_empty}

-- ---- lists

-- a function of each that stands behind place n is what stands behind it of the function of all
pub map-drop : {A B : Type 0} (f : A → B) (n : ℕ) (l : List A) → map f (drop n l) ≡ drop n (map f l)
map-drop f zero l = refl
map-drop f (suc n) [] = refl
map-drop f (suc n) (x ∷ l) = map-drop f n l

-- what stands before the cut, and behind it
pub at_front : {A : Type 0} (u v : List A) (n k : ℕ) (d : A) → length u ≡ n → k < n → get_or (u ++ v) k d ≡ get_or u k d
at_front u v n k d h l = get_or-append u v d k (omega arith)

-- behind the cut, two lists in a row have what the second has
pub at_back : {A : Type 0} (u v : List A) (n k : ℕ) (d : A) → length u ≡ n → get_or (u ++ v) (n + k) d ≡ get_or v k d
at_back u v n k d h = ap (λ (m : ℕ). get_or (u ++ v) (m + k) d) (sym h) ∙ get_or-append-add u v k d

-- ---- sets of openings

-- a set with no opening
abbrev pub Quiet : List Bool → Type 0
Quiet l = (k : ℕ) → get_or l k false ≡ true → ⊥

-- a set that has no opening from place n on
pub quiet_after : (l : List Bool) (n : ℕ) → ((k : ℕ) → get_or l k false ≡ true → k < n) → Quiet (drop n l)
quiet_after l n h k e = absurd (omega (arith, h (n + k) (sym (get_or-drop n l k false) ∙ e)))

module _ {A : Type 0} where
  -- what two sets in a row choose is what the first chooses, and then the second behind it
  pub select_append : (xs : List A) (u v : List Bool) → select xs (u ++ v) ≡ select xs u ++ select (drop (length u) xs) v
  unfolding select
  select_append xs [] v = ap (λ (l : List A). l ++ select xs v) (sym (select_empty xs))
  select_append [] (c ∷ u) v = refl
  select_append (x ∷ xs) (false ∷ u) v = select_append xs u v
  select_append (x ∷ xs) (true ∷ u) v = ap (λ (l : List A). x ∷ l) (select_append xs u v)

  -- a set with no opening from place n on is its front
  pub select_front : (xs : List A) (cs : List Bool) (n : ℕ) → ((k : ℕ) → get_or cs k false ≡ true → k < n) → select xs cs ≡ select xs (take n cs)
  select_front xs cs n h =
      ap (select xs) (sym (take-append-drop n cs)) ∙ select_append xs (take n cs) (drop n cs)
      ∙ ap (λ (l : List A). select xs (take n cs) ++ l) (select_off (drop (length (take n cs)) xs) (drop n cs) (quiet_after cs n h))
      ∙ append-nil (select xs (take n cs))

-- choosing from what a function makes of a list is what it makes of the chosen
pub select-map : {A B : Type 0} (f : A → B) (xs : List A) (cs : List Bool) → select (map f xs) cs ≡ map f (select xs cs)
unfolding select
select-map f [] cs = refl
select-map f (x ∷ xs) [] = refl
select-map f (x ∷ xs) (false ∷ cs) = select-map f xs cs
select-map {B = B} f (x ∷ xs) (true ∷ cs) = ap (λ (l : List B). f x ∷ l) (select-map f xs cs)

-- the sum at two sets in a row is the sum at the first and that at the second behind it
pub sum_append : (ns : List ℕ) (u v : List Bool) → sum_at ns (u ++ v) ≡ sum_at ns u + sum_at (drop (length u) ns) v
unfolding sum_at
sum_append ns [] v = omega arith
sum_append [] (c ∷ u) v = omega (arith, sum_none v)
sum_append (n ∷ ns) (false ∷ u) v = sum_append ns u v
sum_append (n ∷ ns) (true ∷ u) v = omega (arith, sum_append ns u v)

-- ---- tables

-- a table of n + m places is that of the first n and then that of the m behind them
pub table_append : {A : Type 0} (f : ℕ → A) (n m : ℕ) → table f (n + m) ≡ table f n ++ table (λ k. f (n + k)) m
unfolding table
table_append f zero m = ap (table f) (zero-add m) ∙ table_same f (λ k. f (0 + k)) m (λ k l. ap f (sym (zero-add k)))
table_append {A = A} f (suc n) m =
    ap (table f) (suc-add n m) ∙ ap (λ (l : List A). f 0 ∷ l) (table_append (λ k. f (suc k)) n m)
    ∙ ap (λ (l : List A). f 0 ∷ (table (λ k. f (suc k)) n ++ l)) (table_same (λ k. f (suc (n + k))) (λ k. f (suc n + k)) m (λ k l. ap f (sym (suc-add n k))))

-- a sum over places, cut at place n
pub sum_cut_at : (f : ℕ → ℕ) (n m : ℕ) → sum 0 (n + m) f ≡ sum 0 n f + sum 0 m (λ k. f (n + k))
unfolding sum
sum_cut_at f zero m = ap (λ (k : ℕ). sum 0 k f) (zero-add m) ∙ sum_same m 0 f (λ k. f (0 + k)) (λ k _ _. ap f (sym (zero-add k))) ∙ omega arith
sum_cut_at f (suc n) m =
    let e = ap (λ (k : ℕ). sum 0 k f) (suc-add n m) in
    let s = sum_shift (n + m) 0 f in
    let t = sum_shift n 0 f in
    let r = sum_cut_at (λ k. f (suc k)) n m in
    let z = sum_same m 0 (λ k. f (suc (n + k))) (λ k. f (suc n + k)) (λ k _ _. ap f (sym (suc-add n k))) in
    omega (arith, e, s, t, r, z)

-- ---- one set in another

-- the first set is in the second: what is in the one is in the other
abbrev pub Sub : List Bool → List Bool → Type 0
Sub cs ds = (k : ℕ) → get_or cs k false ≡ true → get_or ds k false ≡ true

-- two sets in a row are in two others of the same cut where each is in its own
pub sub_append : (u v cs ds : List Bool) → length u ≡ length v → Sub u v → Sub cs ds → Sub (u ++ cs) (v ++ ds)
sub_append [] [] cs ds h s t k e = t k e
sub_append [] (y ∷ v) cs ds h s t k e = absurd (omega arith)
sub_append (x ∷ u) [] cs ds h s t k e = absurd (omega arith)
sub_append (x ∷ u) (y ∷ v) cs ds h s t zero e = s 0 e
sub_append (x ∷ u) (y ∷ v) cs ds h s t (suc k) e = sub_append u v cs ds (omega arith) (λ k. s (suc k)) t k e

-- where two sets in a row are in two others of the same cut, the second is in the second
pub sub_back : (u v cs ds : List Bool) → length u ≡ length v → Sub (u ++ cs) (v ++ ds) → Sub cs ds
sub_back [] [] cs ds h s k e = s k e
sub_back [] (y ∷ v) cs ds h s k e = absurd (omega arith)
sub_back (x ∷ u) [] cs ds h s k e = absurd (omega arith)
sub_back (x ∷ u) (y ∷ v) cs ds h s k e = sub_back u v cs ds (omega arith) (λ k. s (suc k)) k e

-- where a set is in another, its first n places are in the other's
pub sub_take : (n : ℕ) (cs ds : List Bool) → Sub cs ds → Sub (take n cs) (take n ds)
sub_take zero cs ds s k e = e
sub_take (suc n) [] ds s k e = absurd (false≢true e)
sub_take (suc n) (c ∷ cs) [] s zero e = s 0 e
sub_take (suc n) (c ∷ cs) [] s (suc k) e = absurd (false≢true (s (suc k) (rest cs k n e)))
  where
    rest : (cs : List Bool) (k n : ℕ) → get_or (take n cs) k false ≡ true → get_or cs k false ≡ true
    rest cs k zero e = absurd (false≢true e)
    rest [] k (suc n) e = e
    rest (c ∷ cs) zero (suc n) e = e
    rest (c ∷ cs) (suc k) (suc n) e = rest cs k n e
sub_take (suc n) (c ∷ cs) (d ∷ ds) s zero e = s 0 e
sub_take (suc n) (c ∷ cs) (d ∷ ds) s (suc k) e = sub_take n cs ds (λ k. s (suc k)) k e

-- where two sets in a row are in two others of the same cut, the first is in the first
pub sub_front : (u v cs ds : List Bool) → length u ≡ length v → Sub (u ++ cs) (v ++ ds) → Sub u v
sub_front [] [] cs ds h s k e = e
sub_front [] (y ∷ v) cs ds h s k e = absurd (omega arith)
sub_front (x ∷ u) [] cs ds h s k e = absurd (omega arith)
sub_front (x ∷ u) (y ∷ v) cs ds h s zero e = s 0 e
sub_front (x ∷ u) (y ∷ v) cs ds h s (suc k) e = sub_front u v cs ds (omega arith) (λ k. s (suc k)) k e

-- ---- the tie rule's order behind a common front

-- two sets with the same first mark, one before the other
before_rest : {p q : List Bool} (x : Bool) (a b : List Bool) → Before p q → p ≡ x ∷ a → q ≡ x ∷ b → Before a b
before_rest x a b (here {s = s} {t = t}) e f = let z : ◌≡◌ {A = Bool} false true = cc in absurd (false≢true z)
before_rest x a b (there {x = y} {s = s} {t = t} h) e f =
    let g : ◌≡◌ {A = List Bool} s a = cc in
    let k : ◌≡◌ {A = List Bool} t b = cc in
    rw (sym g) (rw (sym k) h)

-- where one of two sets with a common front is before the other, so is what follows the front
pub before_back : (u s t : List Bool) → Before (u ++ s) (u ++ t) → Before s t
before_back [] s t h = h
before_back (x ∷ u) s t h = before_back u s t (before_rest x (u ++ s) (u ++ t) h refl refl)

-- the same, or before
pub first_back : (u s t : List Bool) → (u ++ t ≡ u ++ s) ⊎ Before (u ++ s) (u ++ t) → (t ≡ s) ⊎ Before s t
first_back u s t = ⊎_elim (λ e. inl (sym (drop-append_seam u t) ∙ ap (drop (length u)) e ∙ drop-append_seam u s)) (λ b. inr (before_back u s t b))

-- a function of each of two lists in a row is that of the first and then of the second
pub map-append : {A B : Type 0} (f : A → B) (l m : List A) → map f (l ++ m) ≡ map f l ++ map f m
map-append f [] m = refl
map-append {B = B} f (x ∷ l) m = ap (λ (r : List B). f x ∷ r) (map-append f l m)

-- a function of each of the first n is the first n of what it makes of all
pub map-take : {A B : Type 0} (f : A → B) (n : ℕ) (l : List A) → map f (take n l) ≡ take n (map f l)
map-take f zero l = refl
map-take f (suc n) [] = refl
map-take {B = B} f (suc n) (x ∷ l) = ap (λ (r : List B). f x ∷ r) (map-take f n l)

-- a set with no opening from place n on, over the front
pub select-take : {A : Type 0} (xs : List A) (cs : List Bool) (n : ℕ) → ((k : ℕ) → get_or cs k false ≡ true → k < n) → select xs cs ≡ select (take n xs) cs
unfolding select
select-take [] cs zero h = refl
select-take [] cs (suc n) h = refl
select-take (x ∷ xs) cs zero h = select_off (x ∷ xs) cs (λ k e. absurd (omega (arith, h k e)))
select-take (x ∷ xs) [] (suc n) h = refl
select-take (x ∷ xs) (false ∷ cs) (suc n) h = select-take xs cs n (λ k e. omega (arith, h (suc k) e))
select-take {A = A} (x ∷ xs) (true ∷ cs) (suc n) h = ap (λ (l : List A). x ∷ l) (select-take xs cs n (λ k e. omega (arith, h (suc k) e)))
