-- `read_opening`: the line of the step, and then that of the fee.
use Rattle.std.proofs.Common.{rules}
use Rattle.lines.specs.Text.{bytes}
use Rattle.lines.specs.Parser.{◌>>=◌, return}
use Rattle.job_grammar.specs.Grammar.{opening}
use Rattle.job_sections.proofs.openings.read_opening.Goals as goal

pub returns-in_err-step : goal.returns-in_err-step
unfolding opening bytes ◌>>=◌
returns-in_err-step c = search rules

pub returns-in_err-fee : goal.returns-in_err-fee
unfolding opening bytes ◌>>=◌
returns-in_err-fee c = search rules

pub returns : goal.returns
unfolding opening bytes ◌>>=◌ return
returns c = search rules
