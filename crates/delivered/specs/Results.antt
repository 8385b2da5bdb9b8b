-- Which results each call can have: "Result numbers, by who can cause them", as include/juzvarola.h lists them. The writer's stand in its own promise (`WritePromise .says_8`, `.says_0`, `.refuses`).
use Rattle.std.specs.Prelude.{ℕ, ◌≤◌, ◌⊎◌, List}
use Rattle.answers.specs.Said.{Said, lent}
use Rattle.planning.specs.Plan.{plan_said, plan_room}
use Rattle.judging.specs.Judge.{judge_said, judge_room}
use Rattle.serving.specs.Serve.{latest_said, latest_room}
use Rattle.carrying.specs.Carry.{carry_said, carry_room}
use Rattle.hall_planning.specs.Hall.{hall_said, hall_room}
use Rattle.counting.specs.Count.{count_said}
use Rattle.optimizing.specs.Promise.{OptimumPromise}

-- a number from one to another
abbrev pub Between : ℕ → ℕ → ℕ → Type 0
Between from to n = (from ≤ n) × (n ≤ to)

-- "results 0 to 8, 12 and 13", of the optimum too
abbrev pub OfPlanner : ℕ → Type 0
OfPlanner n = Between 0 8 n ⊎ Between 12 13 n

-- R6. "Planner only", R10, R11. "judge only": "results 0 to 5 and 8 to 13", of the judge and of carrying on
abbrev pub OfJudge : ℕ → Type 0
OfJudge n = Between 0 5 n ⊎ Between 8 13 n

-- of the latest-time habit, "results 0 to 6, 8, 9, 12 and 13"
abbrev pub OfLatest : ℕ → Type 0
OfLatest n = Between 0 6 n ⊎ (Between 8 9 n ⊎ Between 12 13 n)

-- of a hall, "results 0 to 8 and 12 to 14"
abbrev pub OfHall : ℕ → Type 0
OfHall n = Between 0 8 n ⊎ Between 12 14 n

-- of the count, "results 0 to 5, 12 and 13"
abbrev pub OfCount : ℕ → Type 0
OfCount n = Between 0 5 n ⊎ Between 12 13 n

-- each call has no other, whatever texts it is given, and in any room
pub record Results : Type 0 where
  pub planner : (text : List ℕ) (walk room : ℕ) → OfPlanner (lent plan_room room (plan_said text walk)).result
  pub judge : (job plan : List ℕ) (room : ℕ) → OfJudge (lent judge_room room (judge_said job plan)).result
  pub latest : (job plan : List ℕ) (room : ℕ) → OfLatest (lent latest_room room (latest_said job plan)).result
  pub carry : (job log : List ℕ) (room : ℕ) → OfJudge (lent carry_room room (carry_said job log)).result
  pub hall : (text : List ℕ) (walk room : ℕ) → OfHall (lent hall_room room (hall_said text walk)).result
  pub count : (text : List ℕ) → OfCount (count_said text).result
  pub optimum : (text : List ℕ) (walk room : ℕ) (s : Said) → OptimumPromise text walk room s → OfPlanner s.result
