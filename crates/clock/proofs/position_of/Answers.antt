-- `position_of`: the running steps up to the step are its position.
use mathlib.Core.Path.{sym, subst, ◌∙◌}
use lib.ListN.{get_or}
use lib.IntN.{pos}
use Rattle.jobs.specs.Views.{job_of}
use Rattle.clock.specs.Placed.{Position}
use Rattle.clock.proofs.Ranges.{clocked, position_bits}
use Rattle.clock.proofs.position_of.Goals as goal

pub returns : goal.returns
returns c = let here = clocked (job_of c.args.job.now.job) c.args.step c.requires in
    let e = c.running_steps-at.ensures c.args.step c.requires in
    let z = position_bits (get_or c.running_steps-at.result c.args.step (pos 0)) (subst Position (sym e) here) ∙ e in
    (z, subst Position (sym z) here)
