-- The parts that are somebody's holder, as the code holds them.
use Rattle.std.specs.Prelude.{◌≡◌, Bool, true, false, List, [], ◌∷◌, ℕ, suc, ◌≤◌, ◌<◌, length, get_or, take}
use Rattle.model.specs.Limits.{most_parts}
use Rattle.model.specs.Model.{Job, holding}
use Rattle.model.specs.LowerBound.{inner}
use Rattle.coming_out.specs.Rows.{Row}
use Rattle.holding_parts.specs.declared.holding.Holding.{Holding}

-- the places of a set's parts, counted from i
unfoldable pub places_from : ℕ → List Bool → List ℕ
places_from i [] = []
places_from i (false ∷ set) = places_from (suc i) set
places_from i (true ∷ set) = i ∷ places_from (suc i) set

-- its places are places of parts
pub record Within (h : Holding) : Type 0 where
  pub size : length h.places ≡ most_parts
  pub few : h.count ≤ most_parts
  pub inside : (b : ℕ) → b < h.count → get_or h.places b 0 < most_parts

-- the struct holds the parts of a job that are somebody's holder
pub record IsHolding (job : Job) (h : Holding) : Type 0 where
  pub marks : Row false (holding job) h.marks
  pub places : take h.count h.places ≡ places_from 0 (holding job)
  pub count : h.count ≡ inner job
