-- `judge`: a fault of the job text is refused; else the plan text is judged against the job. The promise holds of the defined answer.
use native.Mathlib.Omega.{arith}
use lib.ListN.{length}
use Rattle.job_text.proofs.Views.{refused_job, accepted_job}
use Rattle.job_grammar.proofs.Numbered.{fault}
use Rattle.judging.specs.Judge.{judge_said}
use Rattle.judging.proofs.Promised.{promised}
use Rattle.judging.proofs.judge.Goals as goal

pub refuse-requires : goal.refuse-requires
refuse-requires c = (omega (arith, (fault _ _ _ (refused_job c.args.job.now c.read_job.ensures c.in-Err.is)).1), omega arith)

pub returns-in-Err : goal.returns-in-Err
unfolding judge_said
returns-in-Err c = let a = c.args in
    record { replied = rw (refused_job c.args.job.now c.read_job.ensures c.in-Err.is) c.refuse.ensures; judge_promise = promised a.job.now a.plan.now (length a.out.now) }

pub returns-in-Ok : goal.returns-in-Ok
unfolding judge_said
returns-in-Ok c = let a = c.args in
    record { replied = rw (accepted_job c.args.job.now c.read_job.ensures c.in-Ok.is) c.judge_plan.ensures; judge_promise = promised a.job.now a.plan.now (length a.out.now) }
