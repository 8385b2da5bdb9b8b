-- The texts of several things, thing by thing: what a loop that writes them has written (`texts_more`, `texts_room`). By the laws of `take` and `drop`. Those of what a test chooses (`chosen-texts`). How long those of a rising list are (`rising_room`).
use Prim.Native.Nat.{ℕ, zero, suc, ◌+◌, ◌-◌, ◌≤◌, ◌<◌}
use mathlib.Core.Path.{◌≡◌, refl, sym, ap, ap₂, ◌∙◌}
use mathlib.Core.Bool.{Bool, true, false, cond}
use mathlib.Core.List.{List, [], ◌∷◌, ◌++◌, append_assoc, append-nil}
use native.Mathlib.Numerals.{add-one}
use native.Mathlib.Omega.{arith}
use lib.ListN.{length, get_or, take, drop, length-append}
use lib.Seq.{take-suc, split_at, get_or-take, take-take, length-take-le}
use Rattle.lines.specs.Text.{texts}
use Rattle.base.specs.Joined.{joined}
use Rattle.base.specs.Chosen.{chosen}
use Rattle.base.specs.Each.{Chained}
use Rattle.base.proofs.Joined.{joined_room, joined_grows}

-- the texts of two lists joined are the first's texts and then the second's
pub texts_append : {A : Type 0} (w : A → List ℕ) (xs ys : List A) → texts w (xs ++ ys) ≡ texts w xs ++ texts w ys
texts_append w [] ys = refl
texts_append w (x ∷ xs) ys = ap (λ (r : List ℕ). w x ++ r) (texts_append w xs ys) ∙ sym (append_assoc (w x) (texts w xs) (texts w ys))

cond_text : {A : Type 0} (w : A → List ℕ) (b : Bool) (x : A) → texts w (cond b (x ∷ []) []) ≡ cond b (w x) []
cond_text w true x = append-nil (w x)
cond_text w false x = refl

-- the text of what is chosen, piece by piece
pub chosen-texts : {A : Type 0} (w : A → List ℕ) (test : ℕ → Bool) (f : ℕ → A) (n : ℕ) → texts w (chosen test f n) ≡ joined (λ i. cond (test i) (w (f i)) []) n
unfolding chosen joined
chosen-texts w test f zero = refl
chosen-texts w test f (suc n) =
    texts_append w (chosen test f n) (cond (test n) (f n ∷ []) [])
    ∙ ap₂ (λ (xs ys : List ℕ). xs ++ ys) (chosen-texts w test f n) (cond_text w (test n) (f n))

module _ {A : Type 0} (w : A → List ℕ) (xs : List A) (i : ℕ) (d : A) where
  -- one more is written
  pub texts_more : i < length xs → texts w (take (i + 1) xs) ≡ texts w (take i xs) ++ w (get_or xs i d)
  texts_more h = rw (add-one, take-suc xs i d h) (texts_append w (take i xs) (get_or xs i d ∷ []) ∙ ap (λ (r : List ℕ). texts w (take i xs) ++ r) (append-nil (w (get_or xs i d))))

  -- what is written and the next one are within the whole
  room : i < length xs → length (texts w (take i xs)) + length (w (get_or xs i d)) ≤ length (texts w xs)
  room h =
      let whole = ap length (ap (texts w) (split_at xs i d h) ∙ texts_append w (take i xs) (get_or xs i d ∷ drop (suc i) xs)) in
      omega (arith, whole, length-append (texts w (take i xs)) (w (get_or xs i d) ++ texts w (drop (suc i) xs)), length-append (w (get_or xs i d)) (texts w (drop (suc i) xs)))

-- within the first n
pub texts_room : {A : Type 0} (w : A → List ℕ) (xs : List A) (i n : ℕ) (d : A) → i < n → n ≤ length xs → length (texts w (take i xs)) + length (w (get_or xs i d)) ≤ length (texts w (take n xs))
texts_room w xs i n d h m =
    rw (← take-take i n xs (omega arith), ← get_or-take n xs i d h) (room w (take n xs) i d (rw (length-take-le n xs m) h))

-- those of things that rise are within the texts of all places up to m: each has no more bytes than its place's
pub rising_room : (w f : ℕ → List ℕ) (m before : ℕ) (xs : List ℕ) → before ≤ m → Chained (λ b x. (b < x) × (x ≤ m) × (length (w x) ≤ length (f (x - 1)))) (λ _ x. x) before xs
    → length (texts w xs) + length (joined f before) ≤ length (joined f m)
rising_room w f m before [] low c = omega (arith, joined_grows f before m low)
rising_room w f m before (x ∷ xs) low c =
    rw (length-append (w x))
    (omega (arith, c.0, joined_room f (x - 1) x (omega (arith, c.0)), joined_grows f before (x - 1) (omega (arith, c.0)), rising_room w f m x xs c.0.1 c.1))
