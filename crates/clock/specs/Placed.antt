-- Positions as the code holds them, and where they can lie.
use Rattle.std.specs.Prelude.{ℕ, ◌+◌, ◌≤◌, ◌<◌, ◌≡◌, Bool, false, List, length, get_or, take, ℤ, pos, ◌-ℤ◌}
use Rattle.model.specs.Model.{Job, listed, clock, positions, end}
use Rattle.clock.specs.declared.positions.Positions.{Positions}
use Rattle.model.specs.Limits.{last_position, longest_life}

-- where a step of an accepted job, or the end of its lives, can lie
abbrev pub Position : ℤ → Type 0
Position z = (k : ℕ) × (z ≡ pos k) × (k ≤ last_position)

-- a change at `prev`, which may be R − L or a position, begins a life that ends at a position a: not before 0, and at most the longest life after the last position
abbrev pub Begins : ℕ → ℤ → Type 0
Begins life prev = (a : ℕ) × (prev ≡ pos a -ℤ pos life) × (a ≤ last_position + longest_life)

-- a flag for each step up to the last position: it is idle
abbrev pub Flags : List ℕ → List Bool → Type 0
Flags is flags = (s : ℕ) → s ≤ last_position → get_or flags s false ≡ listed is s

-- the position of each step up to the last
abbrev pub Clocks : Job → List ℤ → Type 0
Clocks job at = (s : ℕ) → s ≤ last_position → get_or at s (pos 0) ≡ clock job s

-- the struct holds the positions of the job's openings, and the end of its lives
pub record Placed (job : Job) (p : Positions) : Type 0 where
  pub openings : take (length job.openings) p.at ≡ positions job
  pub end : p.end ≡ end job
  pub ranges : (i : ℕ) → i < length job.openings → Position (get_or p.at i (pos 0))
  pub end_range : Position p.end
