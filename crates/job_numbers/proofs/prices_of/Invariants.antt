use Rattle.job_numbers.specs.Laid.{Laid}
use Rattle.job_numbers.proofs.Records.{record_row}
use Rattle.job_numbers.proofs.prices_of.Given as goal

abbrev pub invariant-loop-q : goal.invariant-loop-q
invariant-loop-q l = Laid l.q (record_row l.n l.job.parts l.added) l.flat
