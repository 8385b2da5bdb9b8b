-- L7. Model S1 of source 001, constraints (4) and (5), for one opening: which sets of parts may be dismounted there. E7.3. "Holders work through chains, as in S1".
use Rattle.std.specs.Prelude.{◌≡◌, Bool, true, false, List, [], ℕ, suc, ◌<◌, length, get_or}
use Rattle.model.specs.Model.{Job, listed, holders_at}

-- a set of parts that may be dismounted at opening k, where these are the parts' changes
pub record Dismounts (job : Job) (changes : List (List Bool)) (k : ℕ) (out : List Bool) : Type 0 where
  pub size : length out ≡ length job.parts
  -- (4): "a component is dismounted before it is replaced"
  pub replaced : (i : ℕ) → i < length job.parts → get_or (get_or changes i []) k false ≡ true → get_or out i false ≡ true
  -- (5): "each component j in which i is embedded is also dismounted if i is dismounted"
  pub embedded : (i j : ℕ) → j < length job.parts → listed (holders_at job i) (suc j) ≡ true → get_or out i false ≡ true → get_or out j false ≡ true
