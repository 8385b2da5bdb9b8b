-- `prices_first`: by the mark.
use mathlib.Core.Path.{refl, ap}
use borrow.Author.Tests.{eq-eqb, ne_eqb}
use lib.ListN.{get_or}
use Rattle.price_rules.specs.Grammar.{by_list}
use Rattle.form_facts.specs.Views.{lists_of}
use Rattle.form_facts.proofs.Facts.{quotes_take}
use Rattle.part_writing.specs.Views.{prices_said, PricesMarked}
use Rattle.first_parts.proofs.Fronts.{first_marked}
use Rattle.first_parts.proofs.prices_first.Goals as goal

pub returns-then-rules-eq1-clause-said : goal.returns-then-rules-eq1-clause-said
unfolding prices_said
returns-then-rules-eq1-clause-said c = rw (eq-eqb (get_or c.args.parts.now.rules.ruled.now 0 0) 1 c.if-rules-eq1.true) refl

pub returns-then-rules-eq1-clause-marked : goal.returns-then-rules-eq1-clause-marked
unfolding PricesMarked
returns-then-rules-eq1-clause-marked c = tt

pub returns-clause-said : goal.returns-clause-said
unfolding prices_said
returns-clause-said c = let x = lists_of c.args.parts.now in
    rw (ne_eqb (get_or x.ruled 0 0) 1 c.if-rules-eq1.false) (ap by_list (quotes_take c.args.n x.banded x.lows x.prices))

pub returns-clause-marked : goal.returns-clause-marked
unfolding PricesMarked
returns-clause-marked c = let x = lists_of c.args.parts.now in rw (ne_eqb (get_or x.ruled 0 0) 1 c.if-rules-eq1.false) at (first_marked c.args.n x c.requires)
