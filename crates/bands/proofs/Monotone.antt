-- E11. A plan's cost for prices within bands lies between its costs at the two ends, and both are reached (`cost_band`): sums of prices rise with the prices, and fees and removals don't see them.
use mathlib.Core.Path.{◌≡◌, refl, sym, ap, ◌∙◌}
use mathlib.Core.Bool.{Bool, true, false, ◌&&◌, ◌||◌}
use mathlib.Core.List.{List, [], ◌∷◌, map}
use Prim.Native.Nat.{ℕ, zero, suc, ◌≤◌}
use native.Mathlib.Omega.{arith}
use lib.Dec.{eqb}
use lib.ListN.{length, get_or, drop}
use Rattle.model.specs.Model.{Part, Job, Plan, Each, listed, table, holds_one, with_holders, rounds, comes_out, sum_at, fee_of, prices_of_lem, out_by, removal_of_lem, sum, removals_of_lem, cost_of_lem}
use Rattle.bands.specs.Bands.{unpriced_part, unpriced, PricesUpTo, UpTo, CostBand}

-- ---- sums of prices

sum_rises : (ns ms : List ℕ) (cs : List Bool) → Each ◌≤◌ ns ms → sum_at ns cs ≤ sum_at ms cs
unfolding sum_at
sum_rises ns ms [] h = omega arith
sum_rises [] [] (c ∷ cs) h = omega arith
sum_rises [] (m ∷ ms) (c ∷ cs) h = absurd h
sum_rises (n ∷ ns) [] (c ∷ cs) h = absurd h
sum_rises (n ∷ ns) (m ∷ ms) (false ∷ cs) h = sum_rises ns ms cs h.1
sum_rises (n ∷ ns) (m ∷ ms) (true ∷ cs) h = omega (arith, h.0, sum_rises ns ms cs h.1)

prices_rise : (ps qs : List Part) (cs : List (List Bool)) → Each PricesUpTo ps qs → prices_of_lem ps cs ≤ prices_of_lem qs cs
prices_rise [] [] cs h = omega arith
prices_rise [] (q ∷ qs) cs h = absurd h
prices_rise (p ∷ ps) [] cs h = absurd h
prices_rise (p ∷ ps) (q ∷ qs) [] h = omega arith
prices_rise (p ∷ ps) (q ∷ qs) (c ∷ cs) h = omega (arith, sum_rises p.prices q.prices c h.0, prices_rise ps qs cs h.1)

-- ---- removals don't see prices

same_count : (ps : List Part) → length (map unpriced_part ps) ≡ length ps
same_count [] = refl
same_count (p ∷ ps) = ap suc (same_count ps)

same_removals : (ps : List Part) → map removal_of_lem (map unpriced_part ps) ≡ map removal_of_lem ps
same_removals [] = refl
same_removals (p ∷ ps) = ap (λ (ns : List ℕ). p.removal ∷ ns) (same_removals ps)

holds_same : (ps : List Part) (out : List Bool) (n : ℕ) → holds_one (map unpriced_part ps) out n ≡ holds_one ps out n
unfolding holds_one
holds_same [] out n = refl
holds_same (p ∷ ps) out n = ap (λ (b : Bool). (get_or out 0 false && listed p.holders n) || b) (holds_same ps (drop 1 out) n)

module _ (job : Job) where
  with_same : (out : List Bool) → with_holders (unpriced job) out ≡ with_holders job out
  with_same out = λ i. table (λ j. get_or out j false || holds_same job.parts out (suc j) i) (same_count job.parts i)

  rounds_same : (k : ℕ) (out : List Bool) → rounds (unpriced job) k out ≡ rounds job k out
  unfolding rounds
  rounds_same zero out = refl
  rounds_same (suc k) out = rounds_same k (with_holders (unpriced job) out) ∙ ap (rounds job k) (with_same out)

  out_same : (i : ℕ) → comes_out (unpriced job) i ≡ comes_out job i
  unfolding comes_out
  out_same i = rounds_same _ _ ∙ ap (λ (m : ℕ). rounds job m (table (λ j. eqb i j) m)) (same_count job.parts)

  removals_same : (cs : List (List Bool)) → removals_of_lem (unpriced job) cs ≡ removals_of_lem job cs
  removals_same cs = λ i.
      let m = same_count job.parts i in
      sum 0 (length job.openings) (λ k. sum_at (same_removals job.parts i) (table (out_by (table (λ j. out_same j i) m) cs k) m))

-- ---- costs

cost_rises : (job other : Job) (plan : Plan) → UpTo job other → cost_of_lem job plan ≤ cost_of_lem other plan
cost_rises job other plan h =
    let fees : sum_at (map fee_of job.openings) plan.stops ≡ sum_at (map fee_of other.openings) plan.stops = ap (λ (j : Job). sum_at (map fee_of j.openings) plan.stops) h.same in
    let removals : removals_of_lem job plan.changes ≡ removals_of_lem other plan.changes =
    sym (removals_same job plan.changes) ∙ ap (λ (j : Job). removals_of_lem j plan.changes) h.same ∙ removals_same other plan.changes in
    omega (arith, fees, removals, prices_rise job.parts other.parts plan.changes h.prices)

-- ---- the ends

numbers_to : (ns : List ℕ) → Each ◌≤◌ ns ns
numbers_to [] = tt
numbers_to (n ∷ ns) = (omega arith, numbers_to ns)

parts_to : (ps : List Part) → Each PricesUpTo ps ps
parts_to [] = tt
parts_to (p ∷ ps) = (numbers_to p.prices, parts_to ps)

itself : (job : Job) → UpTo job job
itself job = record { same = refl; prices = parts_to job.parts }

-- a plan costs between its cost at the low ends and that at the high ends, whatever the prices between
pub cost_band : (low high : Job) (plan : Plan) → UpTo low high → CostBand low high plan
cost_band low high plan h = record {
  between = λ job w. (cost_rises low job plan w.from, cost_rises job high plan w.to);
  low_within = record { from = itself low; to = h };
  high_within = record { from = h; to = itself high };
}
