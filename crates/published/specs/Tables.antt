-- L7, E7.11. Source 001: the parts of Table 1, and the plans of Tables 2, 3 and 4.
use Rattle.std.specs.Prelude.{Bool, List, [], ◌∷◌, ℕ, suc, replicate}
use Rattle.model.specs.Model.{Part, Job, Plan, listed, table}

-- a component: its price is the same at all fifty steps
abbrev pub component : ℕ → ℕ → ℕ → ℕ → List ℕ → Part
component life left removal price holders = record { life = life; left = left; removal = removal; holders = holders; prices = replicate 50 price }

-- Table 1: "Lifetime, costs for each component (costs are the same for all time intervals) and dismounting requirements", where a stop costs d_t
abbrev pub table1 : ℕ → Job
table1 fee = record {
  horizon = 50;
  idles = [];
  openings = table (λ k. record { step = suc k; fee = fee }) 50;
  parts = component 7 2 20 80 [] ∷ component 10 5 45 185 [] ∷ component 16 11 40 160 (1 ∷ []) ∷ component 9 4 30 125 (2 ∷ 5 ∷ []) ∷ component 20 15 35 150 [] ∷ [];
}

-- the steps of a list, as a set of openings
abbrev pub steps : List ℕ → List Bool
steps ss = table (λ k. listed ss (suc k)) 50

-- Table 2: "Optimal solution for d_t = 10"
abbrev pub table2 : Plan
table2 = record {
  stops = steps (2 ∷ 4 ∷ 9 ∷ 13 ∷ 16 ∷ 23 ∷ 24 ∷ 30 ∷ 33 ∷ 37 ∷ 42 ∷ 44 ∷ []);
  changes =
      steps (2 ∷ 9 ∷ 16 ∷ 23 ∷ 30 ∷ 37 ∷ 44 ∷ [])
      ∷ steps (4 ∷ 13 ∷ 23 ∷ 33 ∷ 42 ∷ [])
      ∷ steps (9 ∷ 23 ∷ 37 ∷ [])
      ∷ steps (4 ∷ 13 ∷ 16 ∷ 24 ∷ 33 ∷ 42 ∷ [])
      ∷ steps (13 ∷ 33 ∷ [])
      ∷ [];
}

-- Table 3: "Optimal solution for d_t = 100"
abbrev pub table3 : Plan
table3 = record {
  stops = steps (2 ∷ 4 ∷ 10 ∷ 13 ∷ 17 ∷ 22 ∷ 24 ∷ 31 ∷ 38 ∷ 41 ∷ 44 ∷ []);
  changes =
      steps (2 ∷ 4 ∷ 10 ∷ 17 ∷ 24 ∷ 31 ∷ 38 ∷ 44 ∷ [])
      ∷ steps (4 ∷ 13 ∷ 22 ∷ 31 ∷ 41 ∷ [])
      ∷ steps (10 ∷ 24 ∷ 38 ∷ [])
      ∷ steps (4 ∷ 13 ∷ 22 ∷ 31 ∷ 38 ∷ 44 ∷ [])
      ∷ steps (13 ∷ 31 ∷ [])
      ∷ [];
}

-- Table 4: "Optimal solution for d_t = 1000"
abbrev pub table4 : Plan
table4 = record {
  stops = steps (2 ∷ 9 ∷ 16 ∷ 23 ∷ 30 ∷ 37 ∷ 44 ∷ []);
  changes =
      steps (2 ∷ 9 ∷ 16 ∷ 23 ∷ 30 ∷ 37 ∷ 44 ∷ [])
      ∷ steps (2 ∷ 9 ∷ 16 ∷ 23 ∷ 30 ∷ 37 ∷ 44 ∷ [])
      ∷ steps (9 ∷ 23 ∷ 37 ∷ [])
      ∷ steps (2 ∷ 9 ∷ 16 ∷ 23 ∷ 30 ∷ 37 ∷ 44 ∷ [])
      ∷ steps (9 ∷ 23 ∷ 37 ∷ [])
      ∷ [];
}
