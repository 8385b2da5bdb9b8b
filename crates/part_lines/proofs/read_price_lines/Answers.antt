-- `read_price_lines`: the rule's lines, and the listed prices behind them, none where there is a rule.
use Rattle.std.specs.Prelude.{Ok, Err}
use Rattle.std.proofs.Common.{rules}
use Rattle.lines.specs.Parser.{◌>>=◌}
use Rattle.price_rules.specs.Grammar.{prices}
use Rattle.part_lines.proofs.Prices.{ruled_read}
use Rattle.part_lines.proofs.read_price_lines.Goals as goal

pub returns-in_err-rule : goal.returns-in_err-rule
unfolding prices ◌>>=◌
returns-in_err-rule c = search rules

pub returns-in_err-quotes : goal.returns-in_err-quotes
unfolding prices ◌>>=◌
returns-in_err-quotes c = let r = ruled_read c.in_ok-rule.rule c.args.n c.read_rule.new.lines c.read_quotes.new.lines (Err c.in_err-quotes.field-0.0) (search rules) in search (rules, r)

pub returns : goal.returns
unfolding prices ◌>>=◌
returns c = let r = ruled_read c.in_ok-rule.rule c.args.n c.read_rule.new.lines c.read_quotes.new.lines (Ok c.in_ok-quotes.quotes) (search rules) in search (rules, r)
