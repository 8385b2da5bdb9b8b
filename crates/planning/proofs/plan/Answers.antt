-- `plan`: a fault of the job text is refused; else the job is planned. The promise holds of the defined answer.
use mathlib.Core.Path.{◌≡◌, sym, ap, ◌∙◌}
use native.Mathlib.Omega.{arith}
use lib.ListN.{length}
use Rattle.lines.specs.Parser.{accepted, refused}
use Rattle.job_text.proofs.Views.{refused_job, accepted_job}
use Rattle.job_grammar.proofs.Numbered.{fault}
use Rattle.planning.specs.Plan.{plan_said}
use Rattle.planning.proofs.Promised.{promised}
use Rattle.planning.proofs.plan.Goals as goal

pub refuse-requires : goal.refuse-requires
refuse-requires c = (omega (arith, (fault _ _ _ (refused_job c.args.job.now c.read_job.ensures c.in-Err.is)).1), omega arith)

pub plan_job-requires : goal.plan_job-requires
plan_job-requires c = omega (arith, c.walk_number.ensures)

pub returns-in-Err : goal.returns-in-Err
unfolding plan_said
returns-in-Err c = let a = c.args in
    record { replied = rw (refused_job c.args.job.now c.read_job.ensures c.in-Err.is) c.refuse.ensures; plan_promise = promised a.job.now a.walk (length a.out.now) }

pub returns-in-Ok : goal.returns-in-Ok
unfolding plan_said
returns-in-Ok c = let a = c.args in
    let walked = c.walk_number.ensures in
    record { replied = rw (accepted_job c.args.job.now c.read_job.ensures c.in-Ok.is, sym walked) c.plan_job.ensures; plan_promise = promised a.job.now a.walk (length a.out.now) }
