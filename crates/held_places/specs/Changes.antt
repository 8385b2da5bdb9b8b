-- One part at a node: where it can be changed, and the changes that it has there.
use Rattle.std.specs.Prelude.{ℕ, Bool, List, map, ℤ, pos, ◌-ℤ◌}
use Rattle.model.specs.Decisions.{allows}
use Rattle.model.specs.LowerBound.{choice_of, offers, blocks}
use Rattle.held_places.specs.Arrays.{needs_at}

-- where part q can be changed at the node of this name
abbrev pub places_of : ℕ → ℕ → List Bool → ℕ → List Bool → List Bool
places_of n h nd q name = map (allows (needs_at h nd q)) (blocks h n name)

-- of the change sets that keep a part at these places, the one of the least sum of these numbers which the tie rule takes
abbrev pub lane_choice : ℤ → List ℤ → ℕ → ℕ → List ℕ → List Bool → List Bool
lane_choice e ss life left ns at = choice_of (pos life) e (pos left -ℤ pos life) (offers ss ns at)
