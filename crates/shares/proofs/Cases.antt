-- One small job, computed: a head that holds two parts. Its shares are fair, their floor is above E4's, and the walk with them has the planner's plan in fewer nodes; a table that gives away more than the fee is not fair.
use mathlib.Core.Path.{◌≡◌, refl}
use mathlib.Core.Bool.{true, false}
use mathlib.Core.List.{List, [], ◌∷◌}
use Prim.Native.Nat.{ℕ}
use lib.ListN.{get_or}
use Rattle.branch.specs.declared.Bound.TheVariants.{Sum}
use Rattle.branch.specs.Search.{limited}
use Rattle.branch.specs.Questions.{ask_from}
use Rattle.model.specs.Model.{Job, Opening, Plan, listed, running, clock, within, table, holds_one, rounds, comes_out, holding, select, sum_at, sum}
use Rattle.model.specs.Decisions.{held_from, accessible}
use Rattle.model.specs.LowerBound.{least_of_lem, choice_of, offers, blocks, stop_cost, undecided_fees, bound_of}
use Rattle.model.specs.Promise.{optimum, answer_of}
use Rattle.shares.specs.Shares.{Shares, borne, all_below, is_fair, shared_parts, estimate}
use Rattle.shares.specs.Optimum.{shared_bound, shared_answer}

-- openings at steps 1 to 4 for a fee of 6; a head, two parts that it holds, and one that it does not hold and that lives on
abbrev pub openings : List Opening
openings = record { step = 1; fee = 6 } ∷ record { step = 2; fee = 6 } ∷ record { step = 3; fee = 6 } ∷ record { step = 4; fee = 6 } ∷ []

-- a job of four openings with a head that holds two of its parts
abbrev pub job : Job
job = record {
  horizon = 4;
  idles = [];
  openings = openings;
  parts = record { life = 9; left = 9; removal = 8; holders = []; prices = 1 ∷ 1 ∷ 1 ∷ 1 ∷ [] }
      ∷ record { life = 2; left = 2; removal = 1; holders = 1 ∷ []; prices = 3 ∷ 3 ∷ 2 ∷ 3 ∷ [] }
      ∷ record { life = 3; left = 1; removal = 0; holders = 1 ∷ []; prices = 2 ∷ 4 ∷ 5 ∷ 5 ∷ [] }
      ∷ record { life = 9; left = 9; removal = 2; holders = []; prices = 1 ∷ 1 ∷ 1 ∷ 1 ∷ [] }
      ∷ [];
}

-- the same shares at each opening: a row for each part, of the fee and of the head's removal
abbrev pub alike : List (List ℕ) → Shares
alike rows i k m = get_or (get_or rows i []) m 0

-- the example's shares: two parts split the fee and the head's removal, the others bear nothing
abbrev pub halves : Shares
halves = alike ((0 ∷ 0 ∷ []) ∷ (4 ∷ 5 ∷ []) ∷ (2 ∷ 3 ∷ []) ∷ [])

-- stops at 1 and 3, with both parts changed, and the head out
abbrev pub twice : Plan
twice = record {
  stops = true ∷ false ∷ true ∷ false ∷ [];
  changes = (false ∷ false ∷ false ∷ false ∷ []) ∷ (true ∷ false ∷ true ∷ false ∷ []) ∷ (true ∷ false ∷ true ∷ false ∷ [])
      ∷ (false ∷ false ∷ false ∷ false ∷ []) ∷ [];
}

-- these shares are fair
pub fair : is_fair job halves ≡ true
unfolding all_below borne held_from accessible holding comes_out rounds holds_one listed table select sum_at offers least_of_lem choice_of within clock running
fair = refl

unfair : is_fair job (alike ((0 ∷ 0 ∷ []) ∷ (4 ∷ 5 ∷ []) ∷ (3 ∷ 3 ∷ []) ∷ [])) ≡ false
unfolding all_below borne held_from accessible holding comes_out rounds holds_one listed table select sum_at offers least_of_lem choice_of within clock running
unfair = refl

-- a share of a removal that the part does not need counts nothing
not_needed : is_fair job (alike ((0 ∷ 0 ∷ []) ∷ (4 ∷ 5 ∷ []) ∷ (2 ∷ 3 ∷ []) ∷ (0 ∷ 7 ∷ []) ∷ [])) ≡ true
unfolding all_below borne held_from accessible holding comes_out rounds holds_one listed table select sum_at offers least_of_lem choice_of within clock running
not_needed = refl

floor_by_fees : bound_of job [] ≡ Sum 25
unfolding bound_of stop_cost undecided_fees blocks held_from accessible holding comes_out rounds holds_one listed table select sum_at offers least_of_lem choice_of within clock running
floor_by_fees = refl

floor_by_shares : shared_bound job halves [] ≡ Sum 41
unfolding estimate shared_parts sum blocks held_from accessible holding comes_out rounds holds_one listed table select sum_at offers least_of_lem choice_of within clock running
floor_by_shares = refl

planned : answer_of job 4000 ≡ optimum 19 25 42 twice
unfolding answer_of limited ask_from bound_of stop_cost undecided_fees blocks held_from accessible holding comes_out rounds holds_one listed table select sum_at offers least_of_lem choice_of within clock running
planned = refl

shared : shared_answer job halves 4000 ≡ optimum 13 41 42 twice
unfolding limited ask_from estimate shared_parts sum blocks held_from accessible holding comes_out rounds holds_one listed table select sum_at offers least_of_lem choice_of within clock running
shared = refl
