-- Where a walk from a cutoff ends the walks, by the state that it ended in.
use Rattle.std.specs.Prelude.{ℕ, min, cond, ltb, Option, None, Some, Result, Ok, Err}
use Rattle.share_walk.specs.declared.State.{State}
use Rattle.share_walk.specs.State.{name_size}
use Rattle.cutoffs.specs.declared.found.Undercut.{Undercut}
use Rattle.cutoffs.specs.declared.found.Over.{Over}
use Rattle.cutoffs.specs.declared.Risen.{Risen}

-- a plan that is found by its numbers alone
unfoldable pub plain : Result (Option Undercut) Over → Result (Option (ℕ × ℕ)) Over
plain (Ok None) = Ok None
plain (Ok (Some u)) = Ok (Some (u.cost, u.size))
plain (Err o) = Err o

-- the end with its plan by numbers alone, and below which no plan costs
unfoldable pub seen : Option Risen → Option (Result (Option (ℕ × ℕ)) Over × ℕ)
seen None = None
seen (Some r) = Some (plain r.found, r.floor)

-- the walk is over the limit, or a plan costs less than the cutoff k
abbrev pub ended_s : ℕ → ℕ → State → Option (Result (Option (ℕ × ℕ)) Over × ℕ)
ended_s k floor s = cond s.over (Some (Err (record {}), floor)) (cond (ltb s.cost k) (Some (Ok (Some (s.cost, min s.size name_size)), floor)) None)
