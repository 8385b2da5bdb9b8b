use Rattle.std.proofs.Common.{◌-◌, ◌≤◌, ◌≡◌, length}
use Rattle.fault_lines.specs.Fault.{skipped}
use Rattle.fault_lines.proofs.fault.skip_lines.Given as goal

abbrev pub invariant-loop : goal.invariant-loop
invariant-loop l = record {
  short : length l.rest ≤ length l.text;
  left : skipped l.k l.text ≡ skipped (l.k - l.counter) l.rest;
}
