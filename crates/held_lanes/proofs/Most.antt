-- The largest over numbers, as the library finds it; and where a look at a term stands.
use Prim.Native.Nat.{ℕ, zero, suc, ◌*◌, ◌<◌, max}
use mathlib.Core.Path.{◌≡◌, refl, sym, ap, ap₂, ◌∙◌}
use mathlib.Core.List.{List, [], ◌∷◌}
use native.Mathlib.Omega.{arith}
use lib.ListN.{length, get_or, length-map}
use Rattle.std.specs.Prelude.{map}
use Rattle.std.specs.List.{fold, reduce, range_with_len}
use Rattle.std.specs.Option.{unwrap_or}
use Rattle.std.proofs.lemmas.List.{get_or-map}
use Rattle.std.proofs.lemmas.List.FromFn.{get_or-map-range_with_len, length-map-range_with_len}
use Rattle.lane_rows.specs.Layout.{lane_count_lem, mark_count, triangle, block_size}
use Rattle.lane_rows.proofs.Rising.{row_inside}
use Rattle.held_lanes.specs.Places.{most_to, level_place, last_place, classes_place}
use Rattle.held_lanes.specs.Tables.{ClassAsks, TermAsks}

-- the largest over the same numbers
pub most_same : (f g : ℕ → ℕ) (k : ℕ) → ((c : ℕ) → c < k → f c ≡ g c) → most_to f k ≡ most_to g k
unfolding most_to
most_same f g zero e = refl
most_same f g (suc k) e = ap₂ max (most_same f g k (λ c l. e c (omega arith))) (e k (omega arith))

-- the largest of the first and of the others
most_front : (g : ℕ → ℕ) (n : ℕ) → most_to g (suc n) ≡ max (g 0) (most_to (λ (i : ℕ). g (suc i)) n)
unfolding most_to
most_front g zero = omega arith
most_front g (suc n) = ap (λ (m : ℕ). max m (g (suc n))) (most_front g n) ∙ (let y : max (max (g 0) (most_to (λ (i : ℕ). g (suc i)) n)) (g (suc n)) ≡ max (g 0) (max (most_to (λ (i : ℕ). g (suc i)) n) (g (suc n))) = omega arith in y)

-- the largest so far and of the rest
fold_most : (a : ℕ) (xs : List ℕ) → fold max a xs ≡ max a (most_to (λ (i : ℕ). get_or xs i 0) (length xs))
unfolding most_to
fold_most a [] = omega arith
fold_most a (x ∷ xs) =
    fold_most (max a x) xs ∙ (let y : max (max a x) (most_to (λ (i : ℕ). get_or xs i 0) (length xs)) ≡ max a (max x (most_to (λ (i : ℕ). get_or xs i 0) (length xs))) = omega arith in y)
    ∙ ap (max a) (sym (most_front (λ (i : ℕ). get_or (x ∷ xs) i 0) (length xs)))

-- the library's largest, and 0 of no numbers
pub max_all : (xs : List ℕ) → unwrap_or (reduce max xs) 0 ≡ most_to (λ (i : ℕ). get_or xs i 0) (length xs)
unfolding most_to
max_all [] = refl
max_all (x ∷ xs) = fold_most x xs ∙ sym (most_front (λ (i : ℕ). get_or (x ∷ xs) i 0) (length xs))

-- the same of what a function gives over the numbers below n
pub max_mapped : (f : ℕ → ℕ) (n : ℕ) → unwrap_or (reduce max (map f (range_with_len 0 n))) 0 ≡ most_to f n
max_mapped f n =
    let xs = map f (range_with_len 0 n) in
    max_all xs ∙ ap (most_to (λ (i : ℕ). get_or xs i 0)) (length-map-range_with_len f 0 n) ∙ most_same (λ (i : ℕ). get_or xs i 0) f n (λ i l. get_or-map-range_with_len f 0 n i i 0 l (omega arith))

-- the largest from g on of what a function gives over a list
pub fold_mapped : (f : ℕ → ℕ) (g : ℕ) (xs : List ℕ) → fold max g (map f xs) ≡ max g (most_to (λ (i : ℕ). f (get_or xs i 0)) (length xs))
fold_mapped f g xs =
    let ys = map f xs in
    fold_most g ys ∙ ap (λ (n : ℕ). max g (most_to (λ (i : ℕ). get_or ys i 0) n)) (length-map xs f) ∙ ap (max g) (most_same (λ (i : ℕ). get_or ys i 0) (λ (i : ℕ). f (get_or xs i 0)) (length xs) (λ i l. get_or-map f xs i 0 0 l))

-- a term of a level stands in the block
pub term_inside : (u v : List ℕ) (j r c : ℕ) → TermAsks u v j r → c < get_or u classes_place 0 → level_place j (get_or v (last_place r c) 0) < block_size
term_inside u v j r c s h = omega (arith, s.marks c h, row_inside j j mark_count (omega arith) (omega (arith, s.near)))

-- the term of a class may be looked up where those of the level may
pub class_asks : {u v : List ℕ} {j level r c : ℕ} → TermAsks u v j r → c < get_or u classes_place 0 → level ≡ triangle j * lane_count_lem → ClassAsks v level r c
class_asks {u} {v} {j} {level} {r} {c} s h e = record { row = s.row; class = omega (arith, s.few); inside = omega (arith, term_inside u v j r c s h, e) }
