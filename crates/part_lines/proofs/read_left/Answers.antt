-- `read_left`: the rule of the line is that of the definition.
use Rattle.std.proofs.Common.{rules, tests}
use Rattle.lines.specs.Text.{bytes}
use Rattle.lines.specs.Parser.{up_to}
use Rattle.part_lines.proofs.read_left.Goals as goal

pub returns : goal.returns
unfolding bytes
returns c = c.checked.ensures.reads (up_to c.args.life) (λ v t said. search (rules, tests))
