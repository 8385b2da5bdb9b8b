-- `read_hall_lines`: the lines `machines` and `call`, and then the jobs.
use Rattle.std.proofs.Common.{rules}
use Rattle.lines.specs.Text.{bytes}
use Rattle.lines.specs.Parser.{◌>>=◌}
use Rattle.hall_grammar.specs.Reading.{hall_rows}
use Rattle.hall_text.proofs.reading.read_hall_lines.Goals as goal

pub returns-in_err-n : goal.returns-in_err-n
unfolding hall_rows bytes ◌>>=◌
returns-in_err-n c = search rules

pub returns-in_err-call : goal.returns-in_err-call
unfolding hall_rows bytes ◌>>=◌
returns-in_err-call c = search rules

pub returns : goal.returns
unfolding hall_rows bytes ◌>>=◌
returns c = search rules
