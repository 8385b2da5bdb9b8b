use mathlib.Core.Path.{◌≡◌}
use Prim.Native.Nat.{◌-◌}
use lib.ListN.{length}
use Rattle.hall_jobs.specs.Views.{hall_of, jobs_of}
use Rattle.hall_text.proofs.Steps.{Onward}
use Rattle.hall_text.proofs.reading.read_more.Given as goal

abbrev pub invariant-loop : goal.invariant-loop
invariant-loop l = record {
  size : length (jobs_of l.sofar.hall) ≡ l.counter;
  read : Onward (l.n - 1) (hall_of l.fn.first.hall) l.initial.lines (l.n - l.counter) (hall_of l.sofar.hall) l.lines;
}
