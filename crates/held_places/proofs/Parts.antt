-- One part's changes: the arrays' ranges are those that a part's table asks for, and only what a part sees of the openings counts.
use Prim.Native.Nat.{ℕ, suc, ◌+◌, ◌-◌, ◌*◌, ◌<◌}
use mathlib.Core.Path.{◌≡◌, refl, sym, ap, ◌∙◌}
use mathlib.Core.Bool.{Bool, true}
use mathlib.Core.List.{List, [], ◌∷◌}
use native.Mathlib.Omega.{arith}
use lib.ListN.{length, get_or, take, drop, get_or-map}
use lib.Seq.{get_or-take}
use lib.IntN.{ℤ}
use Rattle.model.specs.Decisions.{allows}
use Rattle.model.specs.LowerBound.{offers, blocks}
use Rattle.base.proofs.Bools.{after_one}
use Rattle.model.proofs.Offers.{offers_same}
use Rattle.model.proofs.Blocks.{accessible_none}
use Rattle.held_places.specs.Blocks.{Entries}
use Rattle.held_places.specs.Arrays.{price_stride, prices_at, needs_at}
use Rattle.held_places.specs.Changes.{places_of}

-- ---- what a part sees

-- the places, as the code's array has them
pub places_are : (n h : ℕ) (nd : List Bool) (q : ℕ) (name r : List Bool) → Entries true (λ (k : ℕ). allows (needs_at h nd q) (get_or (blocks h n name) k [])) n r
    → (k : ℕ) → k < n → get_or (take n r) k true ≡ get_or (places_of n h nd q name) k true
places_are n h nd q name r e k l =
    get_or-take n r k true l ∙ e.at k l ∙ sym (get_or-map (allows (needs_at h nd q)) (blocks h n name) k [])
    ∙ ap (get_or (places_of n h nd q name) k) (accessible_none (needs_at h nd q))

-- ---- one part's own windows

module _ (ps : List ℕ) (n q : ℕ) where
  -- the range of the price array that is cut out for part q has its prices at the n openings
  pub prices_are : take (q * price_stride + n - q * price_stride) (drop (q * price_stride) ps) ≡ prices_at n ps q
  prices_are = let z : q * price_stride + n - q * price_stride ≡ n = omega arith in ap (λ (k : ℕ). take k (drop (q * price_stride) ps)) z

-- what a part sees of the openings by the code's array is what it sees by its places
pub places_seen : (ss : List ℤ) (ns ms : List ℕ) (h : ℕ) (nd : List Bool) (q : ℕ) (name at : List Bool) → ns ≡ ms
    → Entries true (λ (k : ℕ). allows (needs_at h nd q) (get_or (blocks h (length ss) name) k [])) (length ss) at
    → offers ss ns (take (length ss) at) ≡ offers ss ms (places_of (length ss) h nd q name)
places_seen ss ns ms h nd q name at g p =
    offers_same ss ns ms (take (length ss) at) (places_of (length ss) h nd q name) (λ k m. ap (λ (x : List ℕ). get_or x k 0) g) (places_are (length ss) h nd q name at p)
