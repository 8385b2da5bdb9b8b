-- The incumbent's name, written block by block: each block stands behind those before it.
use Prim.Native.Nat.{ℕ, zero, suc, ◌+◌, ◌/◌, ◌%◌, ◌<◌, ◌≤◌}
use mathlib.Core.Path.{◌≡◌, refl, sym, ap, ap₂, ◌∙◌}
use mathlib.Core.Bool.{Bool, true, false, cond}
use mathlib.Core.List.{List, [], ◌∷◌, ◌++◌, append_assoc}
use native.Mathlib.Omega.{arith}
use native.Mathlib.Numerals.{add-one}
use native.Mathlib.Decide.{dec_lt}
use lib.Dec.{eqb}
use lib.ListN.{length, get_or, take, set, length-append, get_or-append}
use lib.Seq.{take-suc, take-suc-set, take_all, take_at, length-take-le, get_or-append_seam}
use borrow.Rule.Slice.PartMut.{put_mid, post_of}
use Rattle.std.specs.Bool.{then_some}
use Rattle.std.specs.Prelude.{Option}
use Rattle.model.specs.Decisions.{concat}
use Rattle.held_rows.proofs.Seen.{joined_more}
use Rattle.search_state.specs.State.{bits}
use Rattle.search_state.proofs.States.{bits-length}
use Rattle.held_nodes.specs.State.{blocks_of}
use Rattle.held_search.specs.Solved.{block_of, block_said}

-- ---- decisions behind others

-- one more
pub one_more : (name : List Bool) (at : ℕ) (x : Bool) → at < length name → take (at + 1) (set name at x) ≡ take at name ++ (x ∷ [])
one_more name at x h = rw (add-one at) (take-suc-set name at x h)

-- decisions written as one part behind those before it
pub all_wrote : (name from : List Bool) (at k : ℕ) → at ≤ length name → take (at + length from) (put_mid at k name from) ≡ take at name ++ from
all_wrote name from at k h =
    let e : length (take at name ++ from) ≡ at + length from = simp (length-append, length-take-le at name h) (omega arith) in
    ap (take (at + length from)) (sym (append_assoc (take at name) from (post_of at k name))) ∙ take_at (take at name ++ from) (post_of at k name) (at + length from) e

-- ---- a block

-- a block has at most one decision more than there are removals
pub block_length : (h : ℕ) (stop : Bool) (x : ℕ) → length (block_of h stop x) ≤ h + 1
block_length h true x = omega (arith, bits-length h x)
block_length h false x = omega arith

-- the block of a stop that is there or not
pub said_is : (h : ℕ) (stop : Bool) (x : ℕ) (o : Option ℕ) → o ≡ then_some stop x → block_said h o ≡ block_of h stop x
said_is h true x o e = ap (block_said h) e
said_is h false x o e = ap (block_said h) e

-- a stop, and then its removals
pub stop_wrote : (name next last out : List Bool) (at h x : ℕ) → take (at + 1) next ≡ take at name ++ (true ∷ []) → out ≡ bits h x → take (at + 1 + length out) last ≡ take (at + 1) next ++ out → take (at + 1 + h) last ≡ take at name ++ block_of h true x
stop_wrote name next last out at h x e f g =
    let z : at + 1 + h ≡ at + 1 + length out = omega (arith, ap length f, bits-length h x) in
    ap (λ (n : ℕ). take n last) z ∙ g ∙ ap₂ ◌++◌ e f ∙ append_assoc (take at name) (true ∷ []) (bits h x)

-- ---- the blocks of a mask

module _ (h : ℕ) (f : ℕ → ℕ) where
  -- the blocks of n openings in numbers are n blocks
  pub blocks_length : (n m : ℕ) → length (blocks_of h f n m) ≡ n
  unfolding blocks_of
  blocks_length zero m = refl
  blocks_length (suc n) m = length-append (blocks_of h f n (m / 2)) (cond (eqb (m % 2) 1) (true ∷ bits h (f n)) (false ∷ []) ∷ []) ∙ ap (λ (k : ℕ). k + 1) (blocks_length n (m / 2)) ∙ add-one n

  -- that of opening k
  pub block_at : (n m k : ℕ) → k < n → get_or (blocks_of h f n m) k [] ≡ block_of h (get_or (bits n m) k false) (f k)
  unfolding blocks_of bits
  block_at zero m k l = absurd (omega arith)
  block_at (suc n) m k l = go (dec_lt k n) (λ g. block_at n (m / 2) k g)
    where
      bs : List (List Bool)
      bs = blocks_of h f n (m / 2)

      go : Dec (k < n) → (k < n → get_or bs k [] ≡ block_of h (get_or (bits n (m / 2)) k false) (f k))
          → get_or (bs ++ (block_of h (eqb (m % 2) 1) (f n) ∷ [])) k [] ≡ block_of h (get_or (bits n (m / 2) ++ (eqb (m % 2) 1 ∷ [])) k false) (f k)
      go (yes g) r =
          get_or-append bs (block_of h (eqb (m % 2) 1) (f n) ∷ []) [] k (omega (arith, blocks_length n (m / 2))) ∙ r g
          ∙ ap (λ (b : Bool). block_of h b (f k)) (sym (get_or-append (bits n (m / 2)) (eqb (m % 2) 1 ∷ []) false k (omega (arith, bits-length n (m / 2)))))
      go (no g) r =
          let z : k ≡ length bs = omega (arith, g, blocks_length n (m / 2)) in
          let y : k ≡ length (bits n (m / 2)) = omega (arith, g, bits-length n (m / 2)) in
          let x : n ≡ k = omega (arith, g) in
          ap (λ (i : ℕ). get_or (bs ++ (block_of h (eqb (m % 2) 1) (f n) ∷ [])) i []) z ∙ get_or-append_seam bs (block_of h (eqb (m % 2) 1) (f n)) [] []
          ∙ ap (λ (i : ℕ). block_of h (eqb (m % 2) 1) (f i)) x
          ∙ ap (λ (b : Bool). block_of h b (f k)) (sym (ap (λ (i : ℕ). get_or (bits n (m / 2) ++ (eqb (m % 2) 1 ∷ [])) i false) y ∙ get_or-append_seam (bits n (m / 2)) (eqb (m % 2) 1) [] false))

  -- the name so far, with one block more
  pub name_next : (n m k : ℕ) (name : List Bool) (stop : Bool) → k < n → stop ≡ get_or (bits n m) k false → name ≡ concat (take k (blocks_of h f n m)) → name ++ block_of h stop (f k) ≡ concat (take (k + 1) (blocks_of h f n m))
  name_next n m k name stop l e g =
      ap₂ ◌++◌ g (ap (λ (b : Bool). block_of h b (f k)) e ∙ sym (block_at n m k l))
      ∙ sym (joined_more (take k (blocks_of h f n m)) (get_or (blocks_of h f n m) k []))
      ∙ ap concat (sym (ap (λ (i : ℕ). take i (blocks_of h f n m)) (add-one k) ∙ take-suc (blocks_of h f n m) k [] (omega (arith, blocks_length n m))))

  -- a name of as many blocks as there are openings is that of all blocks
  pub name_whole : (n m k : ℕ) (name : List Bool) → k ≡ n → name ≡ concat (take k (blocks_of h f n m)) → name ≡ concat (blocks_of h f n m)
  name_whole n m k name z g = g ∙ ap concat (take_all k (blocks_of h f n m) (omega (arith, z, blocks_length n m)))
