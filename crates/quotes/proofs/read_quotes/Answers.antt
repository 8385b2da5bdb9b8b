-- `read_quotes`: what is read so far stands before what the rest of the prices still gives.
use Rattle.std.proofs.Common.{rules, ◌≡◌, ℕ, refl, ap}
use Rattle.std.proofs.lemmas.Result.{err_from_is_err_and}
use native.Mathlib.Omega.{arith}
use lib.ListN.{take}
use Rattle.lines.specs.Parser.{times}
use Rattle.lines.proofs.Steps.{chain_none, chain_next, chain_stopped, chain_done}
use Rattle.quotes.specs.Views.{quotes_of}
use Rattle.quotes.proofs.Quoted.{quotes_more}
use Rattle.quotes.proofs.read_quotes.Goals as goal

pub loop-i-init : goal.loop-i-init
unfolding quotes_of
loop-i-init c = record { lows = refl; highs = refl; read = chain_none _ _ _ _ _ _ refl }

pub loop-i-preserved : goal.loop-i-preserved
loop-i-preserved c = let q = c.in_ok-quote.quote in
    let l = c.loop-i in
    record {
      lows = search rules;
      highs = search rules;
      read = chain_next l.invariant.read c.read_quote.new.lines _ _ c.loop-i-test.true c.in_ok-quote.ensures (quotes_more l.i l.lows l.highs q.low q.high (omega arith) (omega arith));
    }

pub returns-in_err-quote : goal.returns-in_err-quote
unfolding times
returns-in_err-quote c = let p = err_from_is_err_and c.from_residual.result c.from_residual.ensures.1 in
    rw (p.1, p.2) (chain_stopped c.loop-i.invariant.read c.read_quote.new.lines c.in_err-quote.field-0.0 c.loop-i-test.true c.in_err-quote.ensures)

pub returns : goal.returns
unfolding times
returns c = let l = c.loop-i in
    let all : c.args.n ≡ l.i = omega arith in
    chain_done l.invariant.read _ (omega arith) (ap (λ (k : ℕ). quotes_of l.lows (take k l.highs)) all)
