-- The tie rule of a job without holders, over stop sets and change sets: nothing is decided after a yes, so a plan's decisions are its stops, and each part can be changed at every one of them.
use Prim.Native.Nat.{ℕ, suc}
use mathlib.Core.Path.{◌≡◌, sym, ap, subst, ◌∙◌}
use mathlib.Core.Bool.{Bool}
use mathlib.Core.List.{List, [], ◌∷◌, map}
use mathlib.Core.Logic.{◌⊎◌, inl, inr}
use lib.ListN.{length}
use Rattle.branch.specs.Search.{Before}
use Rattle.model.specs.Model.{Part, Job, Plan, comes_out, NoHolders, Each, Chosen}
use Rattle.model.specs.Decisions.{Held, charged, held_at, held_from, allows, places_in, plan_blocks, decisions_of}
use Rattle.model.proofs.NoHolders.{no_holders, places_plain}
use Rattle.model.proofs.Charges.{block_stops}
use Rattle.model.proofs.Unheld.{same_decisions}

module _ (job : Job) (none : NoHolders job.parts) where
  -- the order of decisions is that of stops
  pub stops_before : (p q : Plan) → length p.stops ≡ length job.openings → length q.stops ≡ length job.openings
      → (decisions_of job q ≡ decisions_of job p) ⊎ Before (decisions_of job p) (decisions_of job q) → (q.stops ≡ p.stops) ⊎ Before p.stops q.stops
  stops_before p q h k (inl e) = inl (sym (same_decisions job none q k) ∙ e ∙ same_decisions job none p h)
  stops_before p q h k (inr b) = inr (subst (λ (s : List Bool). Before s q.stops) (same_decisions job none p h) (subst (Before (decisions_of job p)) (same_decisions job none q k) b))

  module _ (plan : Plan) (size : length plan.stops ≡ length job.openings) where
    -- every stop is a place for every part
    all_places : (i : ℕ) (part : Part) → places_in (held_at job i part) (plan_blocks job plan) ≡ plan.stops
    all_places i part = ap (λ (needs : List Bool). map (allows needs) (plan_blocks job plan)) (no_holders job none (comes_out job i)) ∙ places_plain (plan_blocks job plan) ∙ block_stops job plan size

    -- so changes that are chosen at their places are chosen at the stops
    pub chosen_stops : (i : ℕ) (parts : List Part) (cs : List (List Bool)) → Each (λ (held : Held). Chosen job (places_in held (plan_blocks job plan)) held.part) (held_from job i parts) cs
        → Each (λ (held : Held). Chosen job plan.stops held.part) (held_from job i parts) cs
    unfolding held_from
    chosen_stops i [] [] f = tt
    chosen_stops i [] (c ∷ cs) f = absurd f
    chosen_stops i (part ∷ parts) [] f = absurd f
    chosen_stops i (part ∷ parts) (c ∷ cs) f = (subst (λ (s : List Bool). Chosen job s (charged job i part) c) (all_places i part) f.0, chosen_stops (suc i) parts cs f.1)
