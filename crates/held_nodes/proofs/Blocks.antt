-- Blocks in numbers: one more of them, the same from the same numbers, and that they are whole. By recursion over the openings.
use Prim.Native.Nat.{ℕ, zero, suc, ◌+◌, ◌*◌, ◌/◌, ◌%◌, ◌<◌}
use mathlib.Core.Path.{◌≡◌, refl, subst}
use mathlib.Core.Bool.{Bool, true, false, cond}
use mathlib.Core.List.{List, [], ◌∷◌, ◌++◌}
use native.Mathlib.Omega.{arith}
use native.Mathlib.Numerals.{add-one}
use lib.Dec.{eqb}
use Rattle.model.proofs.Blocks.{Whole, Wholes}
use Rattle.held_rows.specs.Held.{HeldSheet, held}
use Rattle.held_rows.proofs.Seen.{wholes_more}
use Rattle.search_state.specs.State.{bits}
use Rattle.search_state.proofs.States.{bits-length}
use Rattle.held_nodes.specs.State.{blocks_of, removals_in, Written}

-- the same removals at each of k openings make the same blocks
pub blocks_same : (h : ℕ) (f g : ℕ → ℕ) (k m : ℕ) → ((i : ℕ) → i < k → f i ≡ g i) → blocks_of h f k m ≡ blocks_of h g k m
unfolding blocks_of
blocks_same h f g zero m e = refl
blocks_same h f g (suc k) m e =
    let r = blocks_same h f g k (m / 2) (λ i l. e i (omega arith)) in
    let d = e k (omega arith) in
    λ i. r i ++ (cond (eqb (m % 2) 1) (true ∷ bits h (d i)) (false ∷ []) ∷ [])

-- a no more
pub blocks_no : (h : ℕ) (f : ℕ → ℕ) (k m : ℕ) → blocks_of h f (k + 1) (m * 2) ≡ blocks_of h f k m ++ ((false ∷ []) ∷ [])
unfolding blocks_of
blocks_no h f k m =
    let z : m * 2 / 2 ≡ m = omega arith in
    let y : m * 2 % 2 ≡ 0 = omega arith in
    rw (add-one, z, y)

-- a stop more, whose removals are rs
pub blocks_stop : (h : ℕ) (f : ℕ → ℕ) (k m : ℕ) (rs : List Bool) → m % 2 ≡ 1 → bits h (f k) ≡ rs → blocks_of h f (k + 1) m ≡ blocks_of h f k (m / 2) ++ ((true ∷ rs) ∷ [])
unfolding blocks_of
blocks_stop h f k m rs e g = rw (add-one, e, g)

-- all of them are whole
pub blocks_whole : (h : ℕ) (f : ℕ → ℕ) (k m : ℕ) → Wholes h k (blocks_of h f k m)
unfolding blocks_of
blocks_whole h f zero m = tt
blocks_whole h f (suc k) m = wholes_more h k (blocks_of h f k (m / 2)) (cond (eqb (m % 2) 1) (true ∷ bits h (f k)) (false ∷ [])) (blocks_whole h f k (m / 2)) (go (eqb (m % 2) 1))
  where
    go : (b : Bool) → Whole h (cond b (true ∷ bits h (f k)) (false ∷ []))
    go true = bits-length h (f k)
    go false = refl

-- blocks that are written are whole: every decision at each of their openings is there
pub written_whole : {sheet : HeldSheet} {bs : List (List Bool)} {t w v : List ℕ} {rows at m : ℕ} → Written sheet bs t w v rows at m → Wholes (held sheet) at bs
written_whole {sheet} {bs} {t} {w} {v} {rows} {at} {m} wr = subst (Wholes (held sheet) at) wr.blocks (blocks_whole (held sheet) (removals_in v) at m)
