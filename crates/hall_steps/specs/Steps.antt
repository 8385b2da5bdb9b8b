-- The crew's steps in a table: for each of them, and one behind the last, how many openings each line has before it.
use Rattle.std.specs.Prelude.{ℕ, zero, suc, ◌+◌, ◌≡◌, Bool, cond, List, [], Option, Some, None, ltb, get_or}
use Rattle.model.specs.Model.{Job}
use Rattle.hall_model.specs.Hall.{Placed, open_at}

-- the openings that the line at place d has before the k-th step
abbrev pub level_in : List (List ℕ) → ℕ → ℕ → ℕ
level_in ats k d = get_or (get_or ats k []) d 0

-- the line is open at the k-th step: it has one opening more before the next
abbrev pub open_in : List (List ℕ) → ℕ → ℕ → Bool
open_in ats k d = ltb (level_in ats k d) (level_in ats (k + 1) d)

-- of m lines from place d on, the first that is open at the k-th step, or the place behind them
unfoldable pub next_open_lem : List (List ℕ) → ℕ → ℕ → ℕ → ℕ
next_open_lem ats k d zero = d
next_open_lem ats k d (suc m) = cond (open_in ats k d) d (next_open_lem ats k (suc d) m)

-- the place d, if it is one of so many lines'
abbrev pub place_below : ℕ → ℕ → Option ℕ
place_below lines d = cond (ltb d lines) (Some d) None

-- the k-th step of the table is `step`: it says which lines are open there
abbrev pub Tells : List Job → List (List ℕ) → ℕ → ℕ → Type 0
Tells jobs ats k step = (d : ℕ) (job : Job) → Placed jobs d job → open_at job step ≡ open_in ats k d
