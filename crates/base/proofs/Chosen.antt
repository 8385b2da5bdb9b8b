-- Laws of what a test chooses, one number after the other: how it grows, its length, and the numbers of marks. By recursion over how far the numbers go.
use Prim.Native.Nat.{ℕ, zero, suc, ◌+◌, ◌-◌, ◌≤◌, ◌<◌}
use mathlib.Core.Path.{◌≡◌, refl, sym, ap, ap₂, ◌∙◌}
use mathlib.Core.List.{List, [], ◌∷◌, ◌++◌, append_assoc, append-nil}
use mathlib.Core.Bool.{Bool, true, false, cond}
use mathlib.Core.Logic.{⊎_elim}
use native.Mathlib.Omega.{arith}
use native.Mathlib.Nat.{eq-or-lt_of_le}
use lib.ListN.{length, get_or, set, length-append, length-set}
use lib.Seq.{get_or-set_same, get_or-set_other}
use Rattle.base.specs.Joined.{joined}
use Rattle.base.specs.Chosen.{chosen, numbers_of_lem}
use Rattle.base.proofs.Joined.{joined_more}
use Rattle.base.proofs.Bools.{cond_most}

-- ---- growth

cond-length : {A : Type 0} (b : Bool) (x : A) → length (cond b (x ∷ []) []) ≡ cond b 1 0
cond-length true x = refl
cond-length false x = refl

-- one number more chooses one thing more if it passes the test, and none if not
pub chosen_count : {A : Type 0} (test : ℕ → Bool) (f : ℕ → A) (n : ℕ) → length (chosen test f (n + 1)) ≡ length (chosen test f n) + cond (test n) 1 0
unfolding chosen
chosen_count test f n =
    ap length (joined_more (λ i. cond (test i) (f i ∷ []) []) n)
    ∙ length-append (chosen test f n) (cond (test n) (f n ∷ []) [])
    ∙ ap (λ (k : ℕ). length (chosen test f n) + k) (cond-length (test n) (f n))

-- of n numbers a test chooses n at most
pub chosen_few : {A : Type 0} (test : ℕ → Bool) (f : ℕ → A) (n : ℕ) → length (chosen test f n) ≤ n
unfolding chosen joined
chosen_few test f zero = omega arith
chosen_few test f (suc n) = rw length-append (omega (arith, chosen_few test f n, cond-length (test n) (f n), cond_most (test n) 1))

-- the same tests choose the same
pub chosen_same : {A : Type 0} (test test' : ℕ → Bool) (f g : ℕ → A) (n : ℕ) → ((i : ℕ) → i < n → test i ≡ test' i) → ((i : ℕ) → i < n → f i ≡ g i) → chosen test f n ≡ chosen test' g n
unfolding chosen joined
chosen_same test test' f g zero s e = refl
chosen_same {A} test test' f g (suc n) s e =
    ap₂ (λ (xs ys : List A). xs ++ ys) (chosen_same test test' f g n (λ i h. s i (omega arith)) (λ i h. e i (omega arith)))
    (ap₂ (λ (b : Bool) (x : A). cond b (x ∷ []) []) (s n (omega arith)) (e n (omega arith)))

-- and as many, whatever is chosen
pub chosen-length : {A B : Type 0} (test : ℕ → Bool) (f : ℕ → A) (g : ℕ → B) (n : ℕ) → length (chosen test f n) ≡ length (chosen test g n)
unfolding chosen joined
chosen-length test f g zero = refl
chosen-length test f g (suc n) =
    rw (length-append (chosen test f n), length-append (chosen test g n)) (omega (arith, chosen-length test f g n, cond-length (test n) (f n), cond-length (test n) (g n)))

-- the first number, and the others
pub chosen_front : {A : Type 0} (test : ℕ → Bool) (f : ℕ → A) (n : ℕ) → chosen test f (suc n) ≡ cond (test 0) (f 0 ∷ []) [] ++ chosen (λ i. test (suc i)) (λ i. f (suc i)) n
unfolding chosen joined
chosen_front test f zero = sym (append-nil (cond (test 0) (f 0 ∷ []) []))
chosen_front test f (suc n) =
    ap (λ (xs : List _). xs ++ cond (test (suc n)) (f (suc n) ∷ []) []) (chosen_front test f n)
    ∙ append_assoc (cond (test 0) (f 0 ∷ []) []) (chosen (λ i. test (suc i)) (λ i. f (suc i)) n) (cond (test (suc n)) (f (suc n) ∷ []) [])

-- ---- marks

-- no number from i on is chosen
pub chosen_none_after : {A : Type 0} (test : ℕ → Bool) (f : ℕ → A) (i n : ℕ) → i ≤ n → ((j : ℕ) → i ≤ j → j < n → test j ≡ false) → chosen test f n ≡ chosen test f i
unfolding chosen joined
chosen_none_after test f i zero h none = let e : 0 ≡ i = omega arith in ap (chosen test f) e
chosen_none_after {A} test f i (suc n) h none =
    ⊎_elim
    (λ (e : i ≡ suc n). ap (chosen test f) (sym e))
    (λ (l : i < suc n). ap (λ (b : Bool). chosen test f n ++ cond b (f n ∷ []) []) (none n (omega arith) (omega arith)) ∙ append-nil (chosen test f n) ∙ chosen_none_after test f i n (omega arith) (λ j k m. none j k (omega arith)))
    (eq-or-lt_of_le h)

-- a number is marked, above all that are
pub numbers_more : (marks : List Bool) (h : ℕ) → 1 ≤ h → h ≤ length marks → ((j : ℕ) → h - 1 ≤ j → get_or marks j false ≡ false) → numbers_of_lem (set marks (h - 1) true) ≡ numbers_of_lem marks ++ h ∷ []
unfolding chosen
numbers_more marks h low high none =
    ap (chosen new (λ i. i + 1)) (length-set marks (h - 1) true)
    ∙ chosen_none_after new (λ i. i + 1) (h - 1 + 1) (length marks) (omega arith) (λ j k l. get_or-set_other marks (h - 1) j true false (λ e. omega arith) ∙ none j (omega arith))
    ∙ last
    ∙ ap₂ (λ (xs ys : List ℕ). xs ++ ys) (chosen_same new old (λ i. i + 1) (λ i. i + 1) (h - 1) (λ j k. get_or-set_other marks (h - 1) j true false (λ e. omega arith)) (λ j k. refl) ∙ sym (chosen_none_after old (λ i. i + 1) (h - 1) (length marks) (omega arith) (λ j k l. none j k))) (ap (λ (k : ℕ). k ∷ []) same)
  where
    old : ℕ → Bool
    old i = get_or marks i false

    new : ℕ → Bool
    new i = get_or (set marks (h - 1) true) i false

    same : h - 1 + 1 ≡ h
    same = omega arith

    last : chosen new (λ i. i + 1) (h - 1 + 1) ≡ chosen new (λ i. i + 1) (h - 1) ++ (h - 1 + 1) ∷ []
    last = joined_more (λ i. cond (new i) ((i + 1) ∷ []) []) (h - 1) ∙ ap (λ (b : Bool). chosen new (λ i. i + 1) (h - 1) ++ cond b ((h - 1 + 1) ∷ []) []) (get_or-set_same marks (h - 1) true false (omega arith))
