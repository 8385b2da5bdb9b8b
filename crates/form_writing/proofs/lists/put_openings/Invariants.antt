use lib.ListN.{length, take}
use Rattle.lines.specs.Text.{texts}
use Rattle.line_writing.specs.Puts.{Puts}
use Rattle.job_grammar.specs.Rendering.{opening_text}
use Rattle.form_facts.specs.Facts.{paired}
use Rattle.form_writing.proofs.lists.put_openings.Given as goal

abbrev pub invariant-loop-step : goal.invariant-loop-step
invariant-loop-step l = Puts l.initial.out (texts opening_text (take (length l.yielded) (paired l.openings l.fees))) l.out
