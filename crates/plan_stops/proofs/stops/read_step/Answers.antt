-- `stops::read_step`: the closure's rule is that the step is after the one before and an opening.
use Rattle.std.proofs.Common.{rules, tests}
use Rattle.lines.specs.Text.{bytes}
use Rattle.jobs.specs.Views.{job_of}
use Rattle.plan_grammar.specs.Grammar.{may_stop}
use Rattle.plan_stops.proofs.stops.read_step.Goals as goal

pub returns : goal.returns
unfolding bytes
returns c = c.checked.ensures.reads (may_stop (job_of c.args.job.now) c.args.before) (λ v t p. search (rules, tests))
