-- Each line with the plan that the code holds for it: at each place (`held_at`), as many as lines (`held_size`). By recursion over the lines.
use Prim.Native.Nat.{ℕ, zero, suc, ◌≤◌, ◌<◌}
use mathlib.Core.Path.{◌≡◌, refl, ap}
use mathlib.Core.List.{List, [], ◌∷◌, map}
use native.Mathlib.Omega.{arith}
use lib.ListN.{length, get_or}
use Rattle.jobs.specs.declared.Plan.{Plan}
use Rattle.jobs.specs.declared.accepted.Accepted.{Accepted}
use Rattle.hall_jobs.specs.Hall.{line_of_lem}
use Rattle.hall_search.specs.Found.{each_plan}
use Rattle.hall_printing.specs.Lines.{LinePlan, line_plans}
use Rattle.hall_printing.specs.Finding.{line_held}

-- the lines with the plans that are held for them
abbrev pub held : List Accepted → List Plan → List LinePlan
held jobs plans = line_plans (map line_of_lem jobs) (each_plan jobs plans)

-- there are as many as lines
pub held_size : (jobs : List Accepted) (plans : List Plan) → length jobs ≤ length plans → length (held jobs plans) ≡ length jobs
held_size [] plans l = refl
held_size (a ∷ jobs) [] l = absurd (omega arith)
held_size (a ∷ jobs) (p ∷ plans) l = ap suc (held_size jobs plans (omega arith))

-- what stands at a place is made of what stands there
pub held_at : (jobs : List Accepted) (plans : List Plan) (i : ℕ) (a : Accepted) (p : Plan) (d : LinePlan) → length jobs ≤ length plans → i < length jobs
    → get_or (held jobs plans) i d ≡ line_held (get_or jobs i a) (get_or plans i p)
held_at [] plans i a p d l h = absurd (omega arith)
held_at (b ∷ jobs) [] i a p d l h = absurd (omega arith)
held_at (b ∷ jobs) (q ∷ plans) zero a p d l h = refl
held_at (b ∷ jobs) (q ∷ plans) (suc i) a p d l h = held_at jobs plans i a p d (omega arith) (omega arith)
