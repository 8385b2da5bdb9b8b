-- `judge_in_turn`: the answer is that of the call on what was read, whose output has the room asked; `same` leads to the whole inputs.
use Rattle.std.proofs.Common.{arith, sym, ap₂, subst, ◌∙◌, take}
use Rattle.answers.specs.Said.{Said}
use Rattle.answer_output.specs.Prints.{Prints}
use Rattle.answer_output.proofs.Printing.{prints}
use Rattle.judging.specs.Judge.{judge_said}
use Rattle.judge_program.proofs.Cut.{same}
use Rattle.judge_program.proofs.judge_in_turn.Goals as goal

pub returns : goal.returns
returns g c =
    let of_job = c.read_whole-job_read.ensures in
    let of_plan = c.read_whole-plan_read.ensures in
    let job = take c.read_whole-job_read.result.count c.read_whole-job_read.new.buf in
    let plan = take c.read_whole-plan_read.result.count c.read_whole-plan_read.new.buf in (
      c.open_plan-plan_input.result,
      c.open_plan-plan_input.ensures,
      record {
        judged = record {
          job = job;
          plan = plan;
          job_read = omega (arith, of_job.counts.0, of_job.counts.1);
          plan_read = omega (arith, of_plan.counts.0, of_plan.counts.1);
          says = λ jobWhole planWhole job-kept plan-kept.
              subst (λ (s : Said). Prints s c.print_answer-printout.result) (ap₂ judge_said (sym job-kept) (sym plan-kept) ∙ same jobWhole planWhole)
              (prints (omega arith) c.judge-a.ensures.replied c.print_answer-printout.ensures);
        };
        job_front = of_job.front;
        plan_front = of_plan.front;
        all_of_job = of_job.whole;
        all_of_plan = of_plan.whole;
      },
    )
