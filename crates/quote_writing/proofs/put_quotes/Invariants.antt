use mathlib.Core.Path.{◌≡◌}
use lib.ListN.{length, take}
use Rattle.lines.specs.Text.{texts}
use Rattle.line_writing.specs.Puts.{Puts}
use Rattle.quotes.specs.Rendering.{quote_text}
use Rattle.form_facts.specs.Facts.{sum_of}
use Rattle.form_facts.specs.Views.{quotes_said}
use Rattle.quote_writing.proofs.put_quotes.Given as goal

abbrev pub invariant-loop-high : goal.invariant-loop-high
invariant-loop-high l = record {
  used : l.j ≡ sum_of (take (length l.yielded) l.quotes.banded.now);
  put : Puts l.initial.out (texts quote_text (take (length l.yielded) (quotes_said l.quotes))) l.out;
}
