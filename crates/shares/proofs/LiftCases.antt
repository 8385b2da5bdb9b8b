-- The small job of `Cases` with lifts, computed: the free search of level 1 finds nothing below its tops and 1, so that levels 1 and 0 are lifted by 1, and the walk's floor is the cost, 42.
use mathlib.Core.Path.{◌≡◌, refl, sym, subst}
use mathlib.Core.Bool.{true, false}
use mathlib.Core.List.{[], ◌∷◌}
use Prim.Native.Nat.{ℕ, zero, suc, ◌≤◌}
use native.Mathlib.Omega.{arith}
use lib.ListN.{length, get_or}
use Rattle.branch.specs.declared.Bound.TheVariants.{Sum}
use Rattle.branch.specs.Search.{plan, limited}
use Rattle.branch.specs.Questions.{ask_from}
use Rattle.model.specs.Model.{listed, running, clock, within, table, holds_one, rounds, comes_out, holding, select, sum_at, sum}
use Rattle.model.specs.Decisions.{held_from, accessible}
use Rattle.model.specs.LowerBound.{least_of_lem, choice_of, offers, blocks, plan_at}
use Rattle.shares.specs.Shares.{shared_parts, estimate, FairShares}
use Rattle.shares.specs.Optimum.{tree_by, shared_bound}
use Rattle.known_cost.specs.Known.{walk_under}
use Rattle.shares.specs.Certificate.{least, cheaper, certify}
use Rattle.shares.specs.Lift.{lifted_bound}
use Rattle.shares.specs.Sources.{least_from, sourced_parts, estimate_from, highest, free_up_to, tops_from, tops, LiftsAll}
use Rattle.shares.specs.Dolls.{LiftedFrom, free_tree}
use Rattle.shares.specs.Rising.{found, rising}
use Rattle.shares.proofs.Tests.{fair_test}
use Rattle.shares.proofs.Dolls.{search_lifts, lifts_none, lifts_before}
use Rattle.shares.proofs.Cases.{job, halves, twice, fair}

-- what the estimate has at most, over all last changes of each part
tops_0 : tops job halves 0 ≡ 41
unfolding highest tops_from sum blocks held_from accessible holding comes_out rounds holds_one listed table select sum_at offers least_of_lem within clock running
tops_0 = refl

tops_1 : tops job halves 1 ≡ 34
unfolding highest tops_from sum blocks held_from accessible holding comes_out rounds holds_one listed table select sum_at offers least_of_lem within clock running
tops_1 = refl

-- level 1, from the cutoff 34 + 1: nothing is found
search_1 : (walk_under (free_tree job halves (λ k. 0) 1) 35 4000).incumbent ≡ plan 35 []
unfolding limited ask_from least_from sourced_parts estimate_from free_up_to highest tops_from sum blocks held_from accessible holding comes_out rounds holds_one listed table select sum_at offers least_of_lem within clock running
search_1 = refl

search_1_ends : (walk_under (free_tree job halves (λ k. 0) 1) 35 4000).over ≡ false
unfolding limited ask_from least_from sourced_parts estimate_from free_up_to highest tops_from sum blocks held_from accessible holding comes_out rounds holds_one listed table select sum_at offers least_of_lem within clock running
search_1_ends = refl

-- a level behind: a completion at the estimate is found, so there is nothing to lift
search_2 : (walk_under (free_tree job halves (λ k. 0) 2) 23 4000).incumbent ≡ plan 22 (true ∷ true ∷ false ∷ [])
unfolding limited ask_from least_from sourced_parts estimate_from free_up_to highest tops_from sum blocks held_from accessible holding comes_out rounds holds_one listed table select sum_at offers least_of_lem within clock running
search_2 = refl

abbrev lift : ℕ → ℕ
lift k = get_or (1 ∷ 1 ∷ 0 ∷ 0 ∷ 0 ∷ []) k 0

is_fair_lem : FairShares job halves
is_fair_lem = (fair_test job halves).0 fair

lift_1 : LiftsAll job halves 1 1
lift_1 =
    search_lifts job halves is_fair_lem (λ k. 0) 1 (omega arith) (record { each = λ k _ u. lifts_none job halves is_fair_lem k u; last = refl }) 35 4000 search_1_ends 35 [] search_1 1
    (omega (arith, tops_1))

-- so these are lifts of the job: what `Dolls` asks can be met
lifts : LiftedFrom job halves 0 lift
lifts = record { each = at; last = refl }
  where
    zeros : (k : ℕ) → ◌≡◌ {A = ℕ} (get_or (0 ∷ 0 ∷ 0 ∷ []) k 0) 0
    zeros zero = refl
    zeros (suc zero) = refl
    zeros (suc (suc zero)) = refl
    zeros (suc (suc (suc zero))) = refl
    zeros (suc (suc (suc (suc k)))) = refl

    at : (k : ℕ) → 0 ≤ k → k ≤ length job.openings → LiftsAll job halves k (lift k)
    at zero a b = lifts_before job halves is_fair_lem 0 1 1 (omega arith) (omega arith) lift_1
    at (suc zero) a b = lift_1
    at (suc (suc k)) a b = subst (LiftsAll job halves (suc (suc k))) (sym (zeros k)) (lifts_none job halves is_fair_lem (suc (suc k)) b)

-- the floor is the cost, which is certified at the first node; with shares alone that takes more
floor_lifted : lifted_bound job halves lift [] ≡ Sum 42
unfolding estimate shared_parts sum blocks held_from accessible holding comes_out rounds holds_one listed table select sum_at offers least_of_lem choice_of within clock running
floor_lifted = refl

certified_lifted : certify (tree_by job (lifted_bound job halves lift)) (plan_at job) 42 4000 ≡ least 1
unfolding limited ask_from estimate shared_parts sum blocks held_from accessible holding comes_out rounds holds_one listed table select sum_at offers least_of_lem choice_of within clock running
certified_lifted = refl

certified_shared : certify (tree_by job (shared_bound job halves)) (plan_at job) 42 4000 ≡ least 7
unfolding limited ask_from estimate shared_parts sum blocks held_from accessible holding comes_out rounds holds_one listed table select sum_at offers least_of_lem choice_of within clock running
certified_shared = refl

-- from one more the plan is found
found_lifted : certify (tree_by job (lifted_bound job halves lift)) (plan_at job) 43 4000 ≡ cheaper 13 42 twice
unfolding limited ask_from estimate shared_parts sum blocks held_from accessible holding comes_out rounds holds_one listed table select sum_at offers least_of_lem choice_of within clock running
found_lifted = refl

-- so cutoffs from below pass 42, and end with it
risen : rising job (lifted_bound job halves lift) 4000 (42 ∷ 44 ∷ []) ≡ found 42 twice
unfolding rising limited ask_from estimate shared_parts sum blocks held_from accessible holding comes_out rounds holds_one listed table select sum_at offers least_of_lem choice_of within clock running
risen = refl
