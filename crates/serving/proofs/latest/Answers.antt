-- `latest`: a fault of the job text is refused; else the plan text is answered against the job. The promise holds of the defined answer.
use mathlib.Core.Path.{◌≡◌, sym, ap, ◌∙◌}
use native.Mathlib.Omega.{arith}
use lib.ListN.{length}
use Rattle.lines.specs.Parser.{accepted, refused}
use Rattle.job_text.proofs.Views.{refused_job, accepted_job}
use Rattle.job_grammar.proofs.Numbered.{fault}
use Rattle.serving.specs.Serve.{latest_said}
use Rattle.serving.proofs.Promised.{promised}
use Rattle.serving.proofs.latest.Goals as goal

pub refuse-requires : goal.refuse-requires
refuse-requires c = (omega (arith, (fault _ _ _ (refused_job c.args.job.now c.read_job.ensures c.in-Err.is)).1), omega arith)

pub returns-in-Err : goal.returns-in-Err
unfolding latest_said
returns-in-Err c = let a = c.args in
    record { replied = rw (refused_job c.args.job.now c.read_job.ensures c.in-Err.is) c.refuse.ensures; serve_promise = promised a.job.now a.plan.now (length a.out.now) }

pub returns-in-Ok : goal.returns-in-Ok
unfolding latest_said
returns-in-Ok c = let a = c.args in
    record { replied = rw (accepted_job c.args.job.now c.read_job.ensures c.in-Ok.is) c.serve_plan.ensures; serve_promise = promised a.job.now a.plan.now (length a.out.now) }
