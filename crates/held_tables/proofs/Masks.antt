-- The masks of all sets of four lanes, set by set.
use Prim.Native.Nat.{ℕ, zero, suc, ◌+◌, ◌*◌, ◌/◌, ◌<◌}
use mathlib.Core.Path.{◌≡◌, refl, ◌∙◌}
use mathlib.Core.List.{List, [], ◌∷◌}
use native.Mathlib.Omega.{arith}
use borrow.Author.Count.{below_more}
use lib.ListN.{length, get_or}
use Rattle.base.specs.Filled.{FilledBy}
use Rattle.held_lanes.specs.Places.{bit_at, mask_of, mask_base, mask_place}
use Rattle.held_tables.specs.Fill.{Before}

-- a lane's mask is that of the first lane of what is left of the set behind the lanes before it
pub four_masks : (s a b c d : ℕ) → a ≡ mask_of s 0 → b ≡ mask_of (s / 2) 0 → c ≡ mask_of (s / 2 / 2) 0 → d ≡ mask_of (s / 2 / 2 / 2) 0 → (i : ℕ) → i < 4 → get_or (a ∷ b ∷ c ∷ d ∷ []) i 0 ≡ mask_of s i
unfolding bit_at
four_masks s a b c d e f g h zero l = e
four_masks s a b c d e f g h (suc zero) l = f
four_masks s a b c d e f g h (suc (suc zero)) l = g
four_masks s a b c d e f g h (suc (suc (suc zero))) l = h
four_masks s a b c d e f g h (suc (suc (suc (suc i)))) l = absurd (omega arith)

-- the masks of the first n sets are there, and nothing before them moved
pub record Masked (n : ℕ) (u v : List ℕ) : Type 0 where
  pub masks : (s : ℕ) → s < n → (i : ℕ) → i < 4 → get_or v (mask_place s i) 0 ≡ mask_of s i
  -- nothing before the masks moved while they were written
  pub before : Before mask_base u v

-- before the first set no mask is written and nothing moved
pub masked_none : (u : List ℕ) → Masked 0 u u
masked_none u = record { masks = λ s l i h. absurd (omega arith); before = record { size = refl; rest = λ x l. refl } }

-- four masks that are put where those of set n belong
pub mask_put : (n : ℕ) (ms v w : List ℕ) → (length ms ≡ 4) × ((i : ℕ) → i < 4 → get_or ms i 0 ≡ mask_of n i) → FilledBy (λ (y : ℕ). mask_base + n * 4 + y) (λ (y : ℕ). get_or ms y 0) (length ms) v w → FilledBy (mask_place n) (mask_of n) 4 v w
mask_put n ms v w m f = record { size = f.size; done = λ y h. f.done y (omega (arith, m.0)) ∙ m.1 y h; rest = λ x h. f.rest x (λ y l e. h y (omega (arith, m.0)) e) }

-- with the four numbers of set n written, the masks of one set more are there
pub masked_more : (n : ℕ) (u v w : List ℕ) → FilledBy (mask_place n) (mask_of n) 4 v w → Masked n u v → Masked (n + 1) u w
masked_more n u v w f m =
    record {
      masks = below_more (λ (s : ℕ). (i : ℕ) → i < 4 → get_or w (mask_place s i) 0 ≡ mask_of s i) n (λ s l i h. f.rest (mask_place s i) (λ y g e. omega (arith, e)) ∙ m.masks s l i h) (λ i h. f.done i h);
      before = record { size = f.size ∙ m.before.size; rest = λ x l. f.rest x (λ y g e. omega (arith, e)) ∙ m.before.rest x l };
    }
