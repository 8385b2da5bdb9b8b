-- What the judge's program prints: the judge's answer to two texts, its numbers and its bytes; there is always room for it, so it is never 8.
-- The bytes that are read are the first of each input's, where it says which it has, and all of it that a buffer takes, unless a read failed. Which file is opened by a name, and what becomes of bytes that are handed to standard output, no contract says.
use Rattle.std.specs.Prelude.{ℕ, suc, ◌≤◌, ◌≡◌, List, length, take}
use Rattle.std.specs.declared.option.Option.{Option}
use Rattle.answer_output.specs.Prints.{Prints}
use Rattle.judging.specs.Judge.{judge_said}
use Rattle.judge_program.specs.declared.Done.{Done}
use Rattle.whole_input.specs.declared.Text.TheVariants.{Job, Plan}
use Rattle.whole_input.specs.Input.{Front, Whole}
use Rattle.whole_input.specs.Limits.{limit_of}

-- what was done is that the judge's answer to the bytes that were read as a job and as a plan was printed
pub record Judged (d : Done) : Type 0 where
  -- the bytes that were read as a job, and as a plan
  pub job : List ℕ
  pub plan : List ℕ
  pub job_read : length job ≤ suc (limit_of Job)
  pub plan_read : length plan ≤ suc (limit_of Plan)
  -- the answer to each two texts of which these bytes are all that the buffers take: one byte over the limit tells a longer text
  pub says : (jobWhole planWhole : List ℕ) → take (suc (limit_of Job)) jobWhole ≡ job → take (suc (limit_of Plan)) planWhole ≡ plan
      → Prints (judge_said jobWhole planWhole) d.printout

-- and these are the first bytes of the two inputs, where it is known which they have left, and all that they have left or the buffers take, where no read failed
pub record Printed {I : Type 0} (remaining : I → Option (List ℕ)) (job_input plan_input : Option I) (d : Done) : Type 0 where
  pub judged : Judged d
  pub job_front : Front remaining job_input judged.job
  pub plan_front : Front remaining plan_input judged.plan
  pub all_of_job : Whole remaining job_input (suc (limit_of Job)) d.job_failed judged.job
  pub all_of_plan : Whole remaining plan_input (suc (limit_of Plan)) d.plan_failed judged.plan
