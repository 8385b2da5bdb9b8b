-- `read_rule`: the base's line, if it is there, and what follows it; the first fault is the whole's.
use Rattle.std.proofs.Common.{rules, Ok, Some, None, refl}
use Rattle.lines.specs.Text.{bytes}
use Rattle.lines.specs.Parser.{if_present, return}
use Rattle.lines.proofs.Parsing.{stopped}
use Rattle.lines.proofs.Steps.{went_to, put_value}
use Rattle.price_rules.specs.Grammar.{rule}
use Rattle.price_rules.specs.Views.{rule_of}
use Rattle.price_rules.proofs.read_rule.Goals as goal

pub returns-in_err-base : goal.returns-in_err-base
unfolding rule bytes
returns-in_err-base c = search (rules, stopped)

pub returns-in_err-read-in-Some : goal.returns-in_err-read-in-Some
unfolding rule if_present bytes
returns-in_err-read-in-Some c = went_to _ _ c.args.lines.now c.optional.new.self c.read_after_base.new.lines _ _ _ c.in-Some.is c.in_ok-base.ensures (search (rules, stopped))

pub returns-in_ok-read-in-Some : goal.returns-in_ok-read-in-Some
unfolding rule if_present bytes
returns-in_ok-read-in-Some c =
    let k = put_value Some _ c.optional.new.self c.read_after_base.new.lines _ c.in_ok-read-in-Some.ensures in
    went_to _ _ c.args.lines.now c.optional.new.self c.read_after_base.new.lines _ _ (Ok (Some (rule_of c.in_ok-read-in-Some.read))) c.in-Some.is c.in_ok-base.ensures k

pub returns-in-None : goal.returns-in-None
unfolding rule if_present bytes return
returns-in-None c = went_to _ _ c.args.lines.now c.optional.new.self c.optional.new.self _ _ (Ok None) c.in-None.is c.in_ok-base.ensures refl
