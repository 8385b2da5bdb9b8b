-- The stop after each opening, as the code holds it.
use Rattle.std.specs.Prelude.{ℕ, suc, ◌≤◌, ◌<◌, ◌≡◌, Bool, List, length, get_or, take, drop, ℤ, pos}
use Rattle.model.specs.Model.{select}
use Rattle.model.specs.Limits.{most_openings}
use Rattle.model.specs.Verdict.{next_of}
use Rattle.clock.specs.Placed.{Position}
use Rattle.clock.specs.declared.positions.Positions.{Positions}

-- n openings, which the array has, and the end of the lives lie where those of an accepted job can
pub record Ranged (n : ℕ) (p : Positions) : Type 0 where
  pub few : n ≤ most_openings
  pub long : n ≤ length p.at
  pub openings : (i : ℕ) → i < n → Position (get_or p.at i (pos 0))
  pub end : Position p.end

-- the first stop from opening i of n on, "or T + 1 after the last"
abbrev pub stop_from : ℕ → Positions → List Bool → ℕ → ℤ
stop_from n p stops i = next_of p.end (select (drop i (take n p.at)) (drop i (take n stops)))

-- the array holds for each of n openings the position of the stop after it
pub record NextStops (n : ℕ) (p : Positions) (stops : List Bool) (nexts : List ℤ) : Type 0 where
  pub is : (i : ℕ) → i < n → get_or nexts i (pos 0) ≡ stop_from n p stops (suc i)
  pub ranges : (i : ℕ) → i < n → Position (get_or nexts i (pos 0))
