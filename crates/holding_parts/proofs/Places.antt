-- The places of a set's parts: those of a list that belong to the set are found by them. By recursion over the set.
use mathlib.Core.Path.{◌≡◌, refl, sym, ap, subst, ◌∙◌}
use mathlib.Core.Bool.{Bool, true, false, false≢true}
use mathlib.Core.List.{List, [], ◌∷◌, ◌++◌, map, append_assoc, append-nil}
use Prim.Native.Nat.{ℕ, zero, suc, ◌+◌, ◌≤◌, ◌<◌}
use native.Mathlib.Omega.{arith}
use native.Mathlib.Numerals.{add-one}
use borrow.Author.Count.{below_more}
use lib.ListN.{length, get_or, take, drop, set}
use lib.Seq.{drop-cons, drop-length, take-suc-set, get_or-set_same, get_or-set_other}
use Rattle.model.specs.Model.{select, table}
use Rattle.holding_parts.specs.Places.{places_from}

-- sets with the same parts have the same places
pub places_same : (i : ℕ) (xs ys : List Bool) → ((j : ℕ) → get_or xs j false ≡ get_or ys j false) → places_from i xs ≡ places_from i ys
unfolding places_from
places_same i [] [] h = refl
places_same i [] (false ∷ ys) h = places_same (suc i) [] ys (λ j. none j ∙ h (suc j))
  where
    none : (j : ℕ) → get_or [] j false ≡ false
    none zero = refl
    none (suc j) = refl
places_same i [] (true ∷ ys) h = absurd (false≢true (h 0))
places_same i (false ∷ xs) [] h = places_same (suc i) xs [] (λ j. h (suc j) ∙ none j)
  where
    none : (j : ℕ) → false ≡ get_or [] j false
    none zero = refl
    none (suc j) = refl
places_same i (true ∷ xs) [] h = absurd (false≢true (sym (h 0)))
places_same i (false ∷ xs) (false ∷ ys) h = places_same (suc i) xs ys (λ j. h (suc j))
places_same i (false ∷ xs) (true ∷ ys) h = absurd (false≢true (h 0))
places_same i (true ∷ xs) (false ∷ ys) h = absurd (false≢true (sym (h 0)))
places_same i (true ∷ xs) (true ∷ ys) h = ap (λ (ps : List ℕ). i ∷ ps) (places_same (suc i) xs ys (λ j. h (suc j)))

module _ {A : Type 0} (d : A) where
  chosen : (xs : List A) (i : ℕ) (cs : List Bool) → length cs + i ≤ length xs → select (drop i xs) cs ≡ map (λ p. get_or xs p d) (places_from i cs)
  unfolding places_from select
  chosen xs i [] h = none (drop i xs)
    where
      none : (l : List A) → select l [] ≡ []
      none [] = refl
      none (x ∷ l) = refl
  chosen xs i (false ∷ cs) h = ap (λ (l : List A). select l (false ∷ cs)) (drop-cons xs i d (omega arith)) ∙ chosen xs (suc i) cs (omega arith)
  chosen xs i (true ∷ cs) h = ap (λ (l : List A). select l (true ∷ cs)) (drop-cons xs i d (omega arith)) ∙ ap (λ (l : List A). get_or xs i d ∷ l) (chosen xs (suc i) cs (omega arith))

  map-table : (g : ℕ → A) (n : ℕ) (ps : List ℕ) → n ≤ length ps → map g (take n ps) ≡ table (λ b. g (get_or ps b 0)) n
  unfolding table
  map-table g zero ps h = refl
  map-table g (suc n) [] h = absurd (omega arith)
  map-table g (suc n) (p ∷ ps) h = ap (λ (l : List A). g p ∷ l) (map-table g n ps (omega arith))

  -- those of a list that belong to a set, by their places
  pub select_places : (xs : List A) (cs : List Bool) (n : ℕ) (ps : List ℕ) → length cs ≤ length xs → n ≤ length ps → take n ps ≡ places_from 0 cs → select xs cs ≡ table (λ b. get_or xs (get_or ps b 0) d) n
  select_places xs cs n ps h l e = chosen xs 0 cs (omega arith) ∙ ap (map (λ p. get_or xs p d)) (sym e) ∙ map-table (λ p. get_or xs p d) n ps l

-- ---- the places found one after the other: those before j are there, n of them

module _ (marks : List Bool) (j n : ℕ) (ps : List ℕ) where
  -- the first n places found are the set's up to j, and those from j on are still to come
  abbrev pub Found : Type 0
  Found = places_from 0 marks ≡ take n ps ++ places_from j (drop j marks)

module _ (marks : List Bool) (j n : ℕ) (ps : List ℕ) (h : j < length marks) (f : Found marks j n ps) where
  -- a place whose mark is not set adds no place to those found
  pub found_skip : get_or marks j false ≡ false → Found marks (j + 1) n ps
  unfolding places_from
  found_skip e = rw (add-one j) (f ∙ ap (λ (l : List Bool). take n ps ++ places_from j l) (drop-cons marks j false h) ∙ ap (λ (b : Bool). take n ps ++ places_from j (b ∷ drop (suc j) marks)) e)

  -- a place whose mark is set is stored behind the n places found before it
  pub found_more : n < length ps → get_or marks j false ≡ true → Found marks (j + 1) (n + 1) (set ps n j)
  unfolding places_from
  found_more l e =
      rw (add-one j, add-one n)
      (f
      ∙ ap (λ (l : List Bool). take n ps ++ places_from j l) (drop-cons marks j false h)
      ∙ ap (λ (b : Bool). take n ps ++ places_from j (b ∷ drop (suc j) marks)) e
      ∙ sym (append_assoc (take n ps) (j ∷ []) (places_from (suc j) (drop (suc j) marks)))
      ∙ ap (λ (t : List ℕ). t ++ places_from (suc j) (drop (suc j) marks)) (sym (take-suc-set ps n j l)))

-- after the last mark, the places found are all of the set's places
pub found_all : (marks : List Bool) (j n : ℕ) (ps : List ℕ) → j ≡ length marks → Found marks j n ps → take n ps ≡ places_from 0 marks
unfolding places_from
found_all marks j n ps e f =
    sym (f ∙ ap (λ (l : List Bool). take n ps ++ places_from j l) (ap (λ (k : ℕ). drop k marks) e ∙ drop-length marks) ∙ append-nil (take n ps))

-- a store of a place keeps them below
pub below_set : (most n v : ℕ) (ps : List ℕ) → n < length ps → v < most → ((b : ℕ) → b < n → get_or ps b 0 < most) → (b : ℕ) → b < n + 1 → get_or (set ps n v) b 0 < most
below_set most n v ps l h all =
    below_more (λ b. get_or (set ps n v) b 0 < most) n
    (λ b k. subst (λ (x : ℕ). x < most) (sym (get_or-set_other ps n b v 0 (λ z. omega (arith, z, k)))) (all b k))
    (subst (λ (x : ℕ). x < most) (sym (get_or-set_same ps n v 0 l)) h)
