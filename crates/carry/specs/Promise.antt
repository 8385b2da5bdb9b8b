-- What is promised of the call's answer to an accepted job and a log without line faults: E12.1, E12.2, E12.5.
use Rattle.std.specs.Prelude.{◌≡◌, Bool, false, List, ◌++◌, ◌↔◌, ℕ, ◌+◌, ◌<◌, length, ℤ, pos}
use Rattle.model.specs.Model.{Part, Job, clock, positions, last_change_lem, within, due_of_lem, select, cost_of_lem}
use Rattle.model.specs.Verdict.{accepts, unkept, wrong_cost, part_at, changes_at, last_of, next_of, AllWithin}
use Rattle.carry.specs.Carry.{Log, Lasts, AllLast, Accepts, carried}
use Rattle.carry.specs.Answer.{CarryAnswer, goes_on, refused, carry_number}

-- ---- 10

-- a part "had used more than its life by that step or between changes": its first gap that is too long, the last one up to the step; E1.7. and its due step, "the last step at which a change would
-- have kept the part", as the judge says it of the whole job
pub record UsedUp (job : Job) (step : ℕ) (part : Part) (changes : List Bool) (due : ℕ) : Type 0 where
  -- the changes before that gap, whose gaps are not too long, and those after it
  pub before : List ℤ
  pub after : List ℤ
  pub split : select (positions job) changes ≡ before ++ after
  pub in_life : AllWithin (pos part.life) (last_change_lem part) before
  -- the gap
  pub over_life : within (pos part.life) (last_of (last_change_lem part) before) (next_of (clock job step) after) ≡ false
  pub is_due : due ≡ due_of_lem job (pos part.life) (last_of (last_change_lem part) before)

-- R10. "Lowest such part, and its due step"
pub record LowestUsedUp (job : Job) (log : Log) (part due : ℕ) : Type 0 where
  pub place : ℕ
  pub number : part ≡ place + 1
  pub is_part : place < length job.parts
  pub lowest : (i : ℕ) → i < place → Lasts job log.step (part_at job i) (changes_at log.plan i)
  pub gap : UsedUp job log.step (part_at job place) (changes_at log.plan place) due
  -- it is a step before the log's, or 0
  pub due_before : due < log.step

-- ---- the answer

-- the values handed over, case by case
abbrev pub CarryValues : Job → Log → CarryAnswer → Type 0
CarryValues job log (goes_on next) = next ≡ carried job log
CarryValues job log (refused (accepts cost)) = ⊥
CarryValues job log (refused (unkept part due)) = LowestUsedUp job log part due
CarryValues job log (refused (wrong_cost cost)) = cost ≡ cost_of_lem job log.plan

-- what is promised of the answer
pub record LogPromise (job : Job) (log : Log) (a : CarryAnswer) : Type 0 where
  pub says_0 : (carry_number a ≡ 0) ↔ Accepts job log
  -- "result 10 if a part had used more than its life by that step or between changes"
  pub says_10 : (carry_number a ≡ 10) ↔ (AllLast job log → ⊥)
  -- "then 11"
  pub says_11 : (carry_number a ≡ 11) ↔ (AllLast job log × (log.cost ≡ cost_of_lem job log.plan → ⊥))
  pub values : CarryValues job log a
