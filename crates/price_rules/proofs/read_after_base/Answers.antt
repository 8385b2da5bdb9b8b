-- `read_after_base`: the line of the drop and then that of the least; the first fault is the whole's.
use Rattle.std.proofs.Common.{rules, ℕ, Ok}
use Rattle.lines.specs.Text.{bytes}
use Rattle.lines.proofs.Parsing.{stopped, went_on}
use Rattle.lines.proofs.Steps.{put_value}
use Rattle.price_rules.specs.Grammar.{after_base}
use Rattle.price_rules.proofs.read_after_base.Goals as goal

pub returns-in_err-drop : goal.returns-in_err-drop
unfolding after_base bytes
returns-in_err-drop c = search (rules, stopped)

pub returns-in_err-least : goal.returns-in_err-least
unfolding after_base bytes
returns-in_err-least c = went_on _ _ c.args.lines.now c.field.new.self c.field-2.new.self _ _ c.in_ok-drop.ensures.reads (search (rules, stopped))

pub returns : goal.returns
unfolding after_base bytes
returns c = let b = c.args.base in
    let d = c.in_ok-drop.drop in
    let k = put_value (λ (m : ℕ). record { base = b; drop = d; least = m }) _ c.field.new.self c.field-2.new.self _ c.in_ok-least.ensures.reads in
    went_on _ _ c.args.lines.now c.field.new.self c.field-2.new.self _ (Ok (record { base = b; drop = d; least = c.in_ok-least.least })) c.in_ok-drop.ensures.reads k
