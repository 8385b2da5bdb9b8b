-- A name read block by block: behind k blocks stand the blocks of what is left of the name. By cases on what is left.
use Prim.Native.Nat.{ℕ, zero, suc, ◌+◌, ◌-◌, ◌≤◌, ◌<◌}
use mathlib.Core.Path.{◌≡◌, refl, sym, ap, ◌∙◌}
use mathlib.Core.Bool.{Bool, true, false}
use mathlib.Core.List.{List, [], ◌∷◌, ◌++◌}
use native.Mathlib.Omega.{arith}
use native.Mathlib.Numerals.{add-one}
use lib.ListN.{length, get_or, take, drop, replicate, length-take, length-drop, length-replicate, length-append, get_or-append}
use lib.Seq.{drop-drop, get_or-drop}
use Rattle.model.specs.LowerBound.{blocks}
use Rattle.base.proofs.Bools.{there}
use Rattle.held_places.specs.Blocks.{first_or, block_long, Entries, rest_at}

-- ---- one block

block_drop : (h n : ℕ) (q : List Bool) → drop 1 (blocks h (suc n) q) ≡ blocks h n (drop (block_long h q) q)
unfolding blocks
block_drop h zero [] = refl
block_drop h (suc n) [] = refl
block_drop h n (false ∷ q) = refl
block_drop h n (true ∷ q) = ap (λ (k : ℕ). blocks h n (drop k (true ∷ q))) (sym (add-one h))

block_first : (d : List Bool) (h n : ℕ) (q : List Bool) → get_or (blocks h (suc n) q) 0 d ≡ first_or d h q
unfolding blocks
block_first d h n [] = refl
block_first d h n (false ∷ q) = refl
block_first d h n (true ∷ q) = refl

-- ---- where k blocks of the name p are read

module _ (h n : ℕ) (p : List Bool) where
  -- the blocks still to be read are those of what is left of the name
  rest_blocks : (k : ℕ) → k ≤ n → drop k (blocks h n p) ≡ blocks h (n - k) (rest_at h k p)
  unfolding rest_at
  rest_blocks zero l = let z : n - 0 ≡ n = omega arith in ap (λ (m : ℕ). blocks h m p) (sym z)
  rest_blocks (suc k) l =
      let z : n - k ≡ suc (n - suc k) = omega arith in
      let y : suc k ≡ k + 1 = omega arith in
      ap (λ (m : ℕ). drop m (blocks h n p)) y ∙ sym (drop-drop 1 k (blocks h n p))
      ∙ ap (drop 1) (rest_blocks k (omega arith) ∙ ap (λ (m : ℕ). blocks h m (rest_at h k p)) z) ∙ block_drop h (n - suc k) (rest_at h k p)

  -- the first block of what is left of the name is block k of the node
  pub first_is : (d : List Bool) (k : ℕ) → k < n → first_or d h (rest_at h k p) ≡ get_or (blocks h n p) k d
  first_is d k l =
      let z : n - k ≡ suc (n - (k + 1)) = omega arith in
      let y : k + 0 ≡ k = omega arith in
      sym (block_first d h (n - (k + 1)) (rest_at h k p)) ∙ ap (λ (m : ℕ). get_or (blocks h m (rest_at h k p)) 0 d) (sym z)
      ∙ ap (λ (l : List (List Bool)). get_or l 0 d) (sym (rest_blocks k (omega arith))) ∙ get_or-drop k (blocks h n p) 0 d ∙ ap (λ (m : ℕ). get_or (blocks h n p) m d) y

-- behind one block more
pub rest_more : (h k : ℕ) (p r : List Bool) → r ≡ rest_at h k p → drop (block_long h r) r ≡ rest_at h (k + 1) p
unfolding rest_at
rest_more h k p r e = rw (add-one) (ap (λ (q : List Bool). drop (block_long h q) q) e)

-- behind no block
pub rest_none : (h : ℕ) (p : List Bool) → p ≡ rest_at h 0 p
unfolding rest_at
rest_none h p = refl

-- an array of 64 entries whose first n were written
pub entries_put : (d : Bool) (f : ℕ → Bool) (n : ℕ) (ys : List Bool) → n ≤ 64 → length ys ≡ length (take n (replicate 64 false))
    → ((k : ℕ) → k < n → k < length (take n (replicate 64 false)) → get_or ys k true ≡ f k) → Entries d f n (ys ++ drop n (replicate 64 false))
entries_put d f n ys few e at =
    let size : length (take n (replicate 64 false)) ≡ n = omega (arith, length-take n (replicate 64 false), length-replicate 64 false) in
    record {
      size = simp (length-append, length-drop, length-replicate) (omega (arith, e, size));
      at = λ k l. get_or-append ys (drop n (replicate 64 false)) d k (omega (arith, e, size)) ∙ there ys k d true (omega (arith, e, size)) ∙ at k l (omega (arith, size));
    }
