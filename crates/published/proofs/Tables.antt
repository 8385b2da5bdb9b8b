-- E7.11. Source 001: the costs of the plans of Tables 2, 3 and 4 over the parts of Table 1, "4100, 3980 for dismounting and replacing plus 120 for intervention fixed cost", 5180 and 11690; chains and circles of holders.
-- By computation.
use mathlib.Core.Path.{◌≡◌, refl}
use mathlib.Core.Bool.{true, false}
use mathlib.Core.List.{[], ◌∷◌, map}
use Prim.Native.Nat.{ℕ}
use lib.ListN.{replicate}
use Rattle.model.specs.Model.{Job, listed, table, holds_one, rounds, comes_out, holding, out_by, sum_at, sum, cost_of_lem, running, clock, within, last_within_lem, due_of_lem, select}
use Rattle.published.specs.Tables.{component, table1, table2, table3, table4}
use Rattle.model.specs.Verdict.{accepts, first_late, verdict_from, judged_of}

-- what comes out with part 4, and the parts that are somebody's holder
with_4 : comes_out (table1 10) 3 ≡ false ∷ true ∷ false ∷ true ∷ true ∷ []
unfolding comes_out rounds holds_one listed table
with_4 = refl

holds : holding (table1 10) ≡ true ∷ true ∷ false ∷ false ∷ true ∷ []
unfolding holding holds_one listed table
holds = refl

costs_4100 : cost_of_lem (table1 10) table2 ≡ 4100
unfolding comes_out rounds holds_one listed table out_by sum_at sum
costs_4100 = refl

-- E7.11. "The judge must price the plan of Table 2 in 001 at 4100."
pub judge_4100 : judged_of (table1 10) 4100 table2 ≡ accepts 4100
unfolding comes_out rounds holds_one listed table out_by sum_at sum judged_of verdict_from first_late select within due_of_lem last_within_lem clock running
judge_4100 = refl

-- D9. "the plan tables 2, 3 and 4 of 001 (4100, 5180, 11690)"
pub judge_5180 : judged_of (table1 100) 5180 table3 ≡ accepts 5180
unfolding comes_out rounds holds_one listed table out_by sum_at sum judged_of verdict_from first_late select within due_of_lem last_within_lem clock running
judge_5180 = refl

-- the judge accepts the plan of Table 4 of 001 at its cost, 11690
pub judge_11690 : judged_of (table1 1000) 11690 table4 ≡ accepts 11690
unfolding comes_out rounds holds_one listed table out_by sum_at sum judged_of verdict_from first_late select within due_of_lem last_within_lem clock running
judge_11690 = refl

-- part 1 is behind part 2, which is behind part 3: all three come out for part 1, where S2's direct rule (12) asks only for part 2
abbrev chain : Job
chain = record { horizon = 6; idles = []; openings = []; parts = component 7 7 1 1 (2 ∷ []) ∷ component 7 7 1 1 (3 ∷ []) ∷ component 7 7 1 1 [] ∷ [] }

chain_out : comes_out chain 0 ≡ true ∷ true ∷ true ∷ []
unfolding comes_out rounds holds_one listed table
chain_out = refl

-- a circle of sixteen holders comes out together
abbrev circle : Job
circle = record {
  horizon = 6;
  idles = [];
  openings = [];
  parts = map (λ (h : ℕ). component 7 7 1 1 (h ∷ [])) (2 ∷ 3 ∷ 4 ∷ 5 ∷ 6 ∷ 7 ∷ 8 ∷ 9 ∷ 10 ∷ 11 ∷ 12 ∷ 13 ∷ 14 ∷ 15 ∷ 16 ∷ 1 ∷ []);
}

circle_out : comes_out circle 5 ≡ replicate 16 true
unfolding comes_out rounds holds_one listed table
circle_out = refl
