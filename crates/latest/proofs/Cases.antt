-- The answer to 01's job and to small ones, computed from the definitions.
use mathlib.Core.Path.{◌≡◌, refl}
use mathlib.Core.Bool.{Bool, true, false}
use mathlib.Core.List.{List, [], ◌∷◌}
use Prim.Native.Nat.{ℕ}
use lib.ListN.{replicate}
use Rattle.model.specs.Model.{Job, Part, listed, running, clock, within, kept, table, holds_one, rounds, comes_out, holding, out_by, select, sum_at, sum, cost_of_lem}
use Rattle.model.specs.LowerBound.{least_of_lem, choice_of, offers, choice_over}
use Rattle.model.proofs.Worked.{job_with}
use Rattle.latest.specs.Latest.{latest_from, latest_of_lem, unserved, serves, each_served, latest_answer_of}

abbrev job : Job
job = job_with 10 2

-- over the planner's stops, the planner's plan
planned : latest_answer_of job (true ∷ false ∷ true ∷ false ∷ []) ≡ serves 37 (record {
  stops = true ∷ false ∷ true ∷ false ∷ [];
  changes = (true ∷ false ∷ true ∷ false ∷ []) ∷ (false ∷ false ∷ true ∷ false ∷ []) ∷ [];
})
unfolding latest_answer_of each_served latest_from kept holding comes_out rounds holds_one listed out_by table select sum_at sum within clock running
planned = refl

-- over all openings: part 1 at 2 and 5, part 2 at 4, and a stop without a change
all_stops : latest_answer_of job (replicate 4 true) ≡ serves 57 (record {
  stops = replicate 4 true;
  changes = (true ∷ false ∷ false ∷ true ∷ []) ∷ (false ∷ false ∷ true ∷ false ∷ []) ∷ [];
})
unfolding latest_answer_of each_served latest_from kept holding comes_out rounds holds_one listed out_by table select sum_at sum within clock running
all_stops = refl

-- stops that serve part 2 only
one_stop : latest_answer_of job (false ∷ true ∷ true ∷ false ∷ []) ≡ unserved
unfolding latest_answer_of each_served kept select within clock running listed
one_stop = refl

no_stops : latest_answer_of job (replicate 4 false) ≡ unserved
unfolding latest_answer_of each_served kept select within clock running listed
no_stops = refl

-- one part over two stops, with this life, at these prices and with these idle steps
abbrev one : ℕ → ℕ → ℕ → Part
one life a b = record { life = life; left = life; removal = 0; holders = []; prices = a ∷ b ∷ [] }

abbrev two : List ℕ → Part → Job
two idles part = record { horizon = 4; idles = idles; openings = record { step = 2; fee = 0 } ∷ record { step = 3; fee = 0 } ∷ []; parts = part ∷ [] }

abbrev first : List Bool
first = true ∷ false ∷ []

abbrev second : List Bool
second = false ∷ true ∷ []

-- either stop serves, at one price: the later one is taken, by the habit and by the tie rule; so also if the later one is idle and both are at one position
abbrev SecondTaken : List ℕ → Part → Type 0
SecondTaken idles part = (latest_of_lem (two idles part) (replicate 2 true) part ≡ second) × (choice_over (two idles part) part part.prices (replicate 2 true) ≡ second)

level : SecondTaken [] (one 3 5 5)
unfolding latest_from least_of_lem choice_of offers select within clock running listed
level = (refl, refl)

idle_level : SecondTaken (3 ∷ []) (one 2 5 5)
unfolding latest_from least_of_lem choice_of offers select within clock running listed
idle_level = (refl, refl)

-- where the price rises the habit is dearer: "Changing as late as possible when a price rises with time."
rising : (latest_answer_of (two [] (one 3 5 6)) (replicate 2 true) ≡ serves 6 (record { stops = replicate 2 true; changes = second ∷ [] }))
    × (cost_of_lem (two [] (one 3 5 6)) (record { stops = replicate 2 true; changes = first ∷ [] }) ≡ 5)
unfolding latest_answer_of each_served latest_from kept holding comes_out rounds holds_one listed out_by table select sum_at sum within clock running
rising = (refl, refl)

-- and so with a holder, though no price rises: part 1, behind part 2, is changed later, and part 2 comes out twice
abbrev behind : Job
behind = record {
  horizon = 4;
  idles = [];
  openings = record { step = 2; fee = 0 } ∷ record { step = 3; fee = 0 } ∷ [];
  parts =
      record { life = 3; left = 3; removal = 0; holders = 2 ∷ []; prices = 5 ∷ 5 ∷ [] }
      ∷ record { life = 3; left = 2; removal = 1; holders = []; prices = 5 ∷ 5 ∷ [] }
      ∷ [];
}

held : (latest_answer_of behind (replicate 2 true) ≡ serves 12 (record { stops = replicate 2 true; changes = second ∷ first ∷ [] }))
    × (cost_of_lem behind (record { stops = replicate 2 true; changes = first ∷ first ∷ [] }) ≡ 11)
unfolding latest_answer_of each_served latest_from kept holding comes_out rounds holds_one listed out_by table select sum_at sum within clock running
held = (refl, refl)
