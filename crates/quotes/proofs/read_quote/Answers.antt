-- `read_quote`: the low end's line, if it is there, and what follows it, else the single price; the first fault is the whole's.
use Rattle.std.proofs.Common.{rules, Ok}
use Rattle.lines.specs.Text.{bytes}
use Rattle.lines.proofs.Parsing.{stopped}
use Rattle.lines.proofs.Steps.{went_to, put_value}
use Rattle.quotes.specs.Grammar.{quote, unless_low, single, pair}
use Rattle.quotes.specs.Views.{quote_of}
use Rattle.quotes.proofs.read_quote.Goals as goal

pub returns-in_err-low : goal.returns-in_err-low
unfolding quote bytes
returns-in_err-low c = search (rules, stopped)

pub returns-in_err-high-in-Some : goal.returns-in_err-high-in-Some
unfolding quote unless_low bytes
returns-in_err-high-in-Some c = went_to _ _ c.args.lines.now c.optional.new.self c.read_high.new.lines _ _ _ c.in-Some.is c.in_ok-low.ensures (search (rules, stopped))

pub returns-in_err-high-in-None : goal.returns-in_err-high-in-None
unfolding quote unless_low bytes
returns-in_err-high-in-None c = went_to _ _ c.args.lines.now c.optional.new.self c.field.new.self _ _ _ c.in-None.is c.in_ok-low.ensures (search (rules, stopped))

pub returns-in_ok-high-in-Some : goal.returns-in_ok-high-in-Some
unfolding quote unless_low quote_of bytes
returns-in_ok-high-in-Some c =
    let k = put_value (pair c.in-Some.low) _ c.optional.new.self c.read_high.new.lines _ c.in_ok-high-in-Some.ensures in
    went_to _ _ c.args.lines.now c.optional.new.self c.read_high.new.lines _ _ (Ok (pair c.in-Some.low c.in_ok-high-in-Some.high)) c.in-Some.is c.in_ok-low.ensures k

pub returns-in_ok-high-in-None : goal.returns-in_ok-high-in-None
unfolding quote unless_low quote_of bytes
returns-in_ok-high-in-None c =
    let k = put_value single _ c.optional.new.self c.field.new.self _ c.in_ok-high-in-None.ensures.reads in
    went_to _ _ c.args.lines.now c.optional.new.self c.field.new.self _ _ (Ok (single c.in_ok-high-in-None.high)) c.in-None.is c.in_ok-low.ensures k
