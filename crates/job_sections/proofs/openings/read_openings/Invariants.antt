use mathlib.Core.Path.{◌≡◌}
use lib.ListN.{length}
use Rattle.lines.proofs.Steps.{Chained}
use Rattle.job_grammar.specs.Grammar.{opening}
use Rattle.job_sections.specs.Views.{openings_said}
use Rattle.job_sections.proofs.openings.read_openings.Given as goal

abbrev pub invariant-loop-place : goal.invariant-loop-place
invariant-loop-place l = record {
  size : length l.place-items ≡ l.n;
  read : Chained (opening l.horizon) (λ _ o. o.step) l.n l.place-index (openings_said l.place-index l.place-items) 0 l.before l.initial.lines l.lines;
}
