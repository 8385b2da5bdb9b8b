-- `read_part`: the lines of the life and of what is left, those of removal, where they stand, and the prices.
use Rattle.std.proofs.Common.{rules}
use Rattle.lines.specs.Text.{bytes}
use Rattle.lines.specs.Parser.{◌>>=◌, return}
use Rattle.part_lines.specs.Grammar.{after_left, part}
use Rattle.part_lines.proofs.Prices.{there_said}
use Rattle.part_lines.proofs.read_part.Goals as goal

pub returns-in_err-life : goal.returns-in_err-life
unfolding part bytes ◌>>=◌
returns-in_err-life c = search rules

pub returns-in_err-left : goal.returns-in_err-left
unfolding part bytes ◌>>=◌
returns-in_err-left c = search rules

pub returns-in_err-there : goal.returns-in_err-there
unfolding part after_left bytes ◌>>=◌
returns-in_err-there c = search rules

pub returns-in_err-rule : goal.returns-in_err-rule
unfolding part after_left bytes ◌>>=◌
returns-in_err-rule c = search rules

pub returns : goal.returns
unfolding part after_left bytes ◌>>=◌ return
returns c = let t = there_said c.in_ok-there.there c.none.result in search (rules, t)
