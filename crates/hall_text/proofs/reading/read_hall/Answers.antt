-- `read_hall`: a text over the limit is refused; else its lines decide.
use mathlib.Core.Path.{ap, ◌∙◌}
use Rattle.lines.proofs.Parsing.{text_long, text_fits}
use Rattle.hall_model.specs.Limits.{most_hall_bytes}
use Rattle.hall_grammar.specs.Grammar.{hall_lines_lem}
use Rattle.hall_grammar.specs.Reading.{meaning}
use Rattle.hall_grammar.proofs.Rows.{rows_finish}
use Rattle.hall_text.proofs.reading.read_hall.Goals as goal

pub returns-then-text-gt-MAX_BYTES : goal.returns-then-text-gt-MAX_BYTES
returns-then-text-gt-MAX_BYTES c = ap meaning (text_long most_hall_bytes hall_lines_lem _ c.if-text-gt-MAX_BYTES.true)

pub returns : goal.returns
returns c = c.read_all.ensures ∙ rows_finish _ ∙ ap meaning (text_fits most_hall_bytes hall_lines_lem _ c.if-text-gt-MAX_BYTES.false)
