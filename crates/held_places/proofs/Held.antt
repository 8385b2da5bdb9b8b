-- The job that the arrays hold: how many openings, holding parts and parts it has, its blocks, and a part's changes at a node.
use Prim.Native.Nat.{ℕ, ◌<◌}
use mathlib.Core.Path.{◌≡◌, sym, ap, ap₂, ◌∙◌}
use mathlib.Core.Bool.{Bool}
use mathlib.Core.List.{List, map}
use lib.ListN.{length, get_or, length-map}
use lib.IntN.{ℤ, pos, ◌-ℤ◌}
use Rattle.model.specs.Model.{Job, Opening, clock, removal_of_lem}
use Rattle.model.specs.Decisions.{Held, held_at, held_parts, allows}
use Rattle.model.specs.Verdict.{part_at}
use Rattle.model.specs.LowerBound.{choice_of, offers, blocks, inner, node_at, part_choice_lem}
use Rattle.model.proofs.Totals.{select-length}
use Rattle.model.proofs.Held.{held_length}
use Rattle.held_places.specs.Arrays.{prices_at, HeldJobArrays}
use Rattle.held_places.specs.Changes.{places_of, lane_choice}

-- ---- the arrays hold the job

module _ (job : Job) (e : ℤ) (ss : List ℤ) (fs ls rs ps : List ℕ) (nd : List Bool) (rm : List ℕ) (ho : HeldJobArrays job e ss fs ls rs ps nd rm) where
  pub opened : length ss ≡ length job.openings
  opened = ap length ho.places ∙ length-map job.openings (λ (o : Opening). clock job o.step)

  pub holding : length rm ≡ inner job
  holding = ap length ho.removals ∙ select-length (map removal_of_lem job.parts) job.parts (Rattle.model.specs.Model.holding job) (length-map job.parts removal_of_lem)

  -- a name's blocks, by how many openings and removals the arrays have, are those of the job's node
  pub nodes_are : (p : List Bool) → blocks (length rm) (length ss) p ≡ node_at job p
  nodes_are p = ap₂ (λ (h n : ℕ). blocks h n p) holding opened

  -- the job has as many parts to plan for as the arrays have lives
  pub held_size_lem : length (held_parts job) ≡ length ls
  held_size_lem = held_length job ∙ ho.parts

  -- a part of the list
  module _ (q : ℕ) (l : q < length ls) where
    abbrev own : Held
    own = held_at job q (part_at job q)

    module _ (p : List Bool) where
      -- the changes that it has there, as the model has them
      pub choice_is : lane_choice e ss (get_or ls q 0) (get_or rs q 0) (prices_at (length ss) ps q) (places_of (length ss) (length rm) nd q p) ≡ part_choice_lem job own p
      choice_is =
          let la = ho.lane q l in
          λ i. choice_of (pos (sym la.life i)) (ho.ends i) (pos (sym la.left i) -ℤ pos (sym la.life i)) (offers (ho.places i) (sym la.prices i) (map (allows (sym la.needs i)) (nodes_are p i)))
