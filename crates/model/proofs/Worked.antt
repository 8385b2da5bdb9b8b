-- 01's "One job entire", with two of its plans: what cases are computed of.
use mathlib.Core.Bool.{true, false}
use mathlib.Core.List.{[], ◌∷◌, map}
use Prim.Native.Nat.{ℕ}
use lib.ListN.{replicate}
use Rattle.model.specs.Model.{Job, Plan}

-- the worked job with the fee of each opening and part 1's left
abbrev pub job_with : ℕ → ℕ → Job
job_with fee left = record {
  horizon = 6;
  idles = [];
  openings = map (λ (step : ℕ). record { step = step; fee = fee }) (2 ∷ 3 ∷ 4 ∷ 5 ∷ []);
  parts = record { life = 3; left = left; removal = 0; holders = []; prices = replicate 4 5 } ∷ record { life = 4; left = 4; removal = 0; holders = []; prices = replicate 4 7 } ∷ [];
}

-- stop=2 part=1, stop=4 part=1 part=2
abbrev pub printed : Plan
printed = record {
  stops = true ∷ false ∷ true ∷ false ∷ [];
  changes = (true ∷ false ∷ true ∷ false ∷ []) ∷ (false ∷ false ∷ true ∷ false ∷ []) ∷ [];
}

-- both parts at 2 and 5
abbrev pub twice : Plan
twice = record {
  stops = true ∷ false ∷ false ∷ true ∷ [];
  changes = (true ∷ false ∷ false ∷ true ∷ []) ∷ (true ∷ false ∷ false ∷ true ∷ []) ∷ [];
}
