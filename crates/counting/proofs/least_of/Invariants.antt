use Rattle.model.specs.Model as model
use Rattle.jobs.proofs.Jobs.{viewed}
use Rattle.counting.proofs.Lives.{Least}
use Rattle.counting.proofs.least_of.Given as goal

abbrev pub invariant-loop-i : goal.invariant-loop-i
invariant-loop-i l = Least (λ (p : model.Part). p.life) (viewed 0 l.job.job.part_count l.job.job.parts) l.i l.life × Least (λ (p : model.Part). p.left) (viewed 0 l.job.job.part_count l.job.job.parts) l.i l.left
