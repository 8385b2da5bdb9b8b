-- E6. "How long may this walk become?" The count that is asked for, and what is promised of one. How it is worked out without walking: `Count`.
use Rattle.std.specs.Prelude.{◌≡◌, ◌⊎◌, ◌↔◌, ℕ, ◌≤◌, ◌<◌, min, length}
use Rattle.branch.specs.Open.{open_nodes}
use Rattle.model.specs.Model.{Job, HasPlan}
use Rattle.model.specs.Limits.{most_walk, most_count}
use Rattle.model.specs.Promise.{nodes_of, result_of, searched, whole_count, answer_of}

-- E6.1. "the number of points of a walk that drops a point only if its estimate is missing"
abbrev pub longest : Job → ℕ
longest job = open_nodes (searched job)

-- E6.3. "The count stops at 4000000000, which then means that or more."
abbrev pub capped : ℕ → ℕ
capped n = min most_count n

-- what is promised of the count n
pub record JobCountPromise (job : Job) (n : ℕ) : Type 0 where
  -- E6.1, E6.3. "the number of points of a walk that drops a point only if its estimate is missing"; "The count stops at 4000000000, which then means that or more."
  pub counts : n ≡ capped (longest job)
  -- E6.5. "No walk ever has more points than this count below the cap."
  pub most : n < most_count → whole_count job ≤ n
  -- so no answer's `nodes` is above it, whatever the walk number, and with a walk number of the count or more none is 7
  pub nodes : (limit : ℕ) → limit ≤ most_walk → nodes_of (answer_of job limit) ≤ n
  pub enough : (limit : ℕ) → n < most_count → n ≤ limit → result_of (answer_of job limit) ≡ 7 → ⊥
  -- E6.6. "A job with no plan has result 0 and count 1."; a job without openings has count 1 too, and no other has
  pub one : (n ≡ 1) ↔ ((HasPlan job → ⊥) ⊎ (length job.openings ≡ 0))
