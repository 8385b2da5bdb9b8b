-- The courses of the two kinds of walk: that of the job itself, and that of the search which finds the lift of a level.
use Rattle.std.specs.Prelude.{ℕ, List, [], ◌∷◌, get_or}
use Rattle.model.specs.Model.{Job, last_change_lem}
use Rattle.model.specs.Decisions.{Held}
use Rattle.shares.specs.Shares.{Shares}
use Rattle.shares.specs.Sources.{free_at}
use Rattle.share_rows.specs.Stacked.{Course}

-- the job itself: from level 0, where each part's only source is its last change before the first opening, at no cost
abbrev pub job_course : List Held → (ℕ → ℕ) → Course
job_course lanes lift = record { held = lanes; level = 0; sources = λ (i : ℕ) (held : Held). record { at = last_change_lem held.part; cost = 0 } ∷ []; lift = lift }

-- a level: from its free sources
abbrev pub free_course : Job → Shares → List Held → (ℕ → ℕ) → ℕ → Course
free_course job shares lanes lift level = record { held = lanes; level = level; sources = free_at job shares level; lift = lift }

-- the lifts that an array holds
abbrev pub lift_in : List ℕ → ℕ → ℕ
lift_in lifts k = get_or lifts k 0
