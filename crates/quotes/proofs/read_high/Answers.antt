-- `read_high`: the rule of the line is that of the definition.
use Rattle.std.proofs.Common.{rules, tests}
use Rattle.lines.specs.Text.{bytes}
use Rattle.quotes.specs.Grammar.{at_least}
use Rattle.quotes.proofs.read_high.Goals as goal

pub returns : goal.returns
unfolding bytes
returns c = c.checked.ensures.reads (at_least c.args.low) (λ v t said. search (rules, tests))
