-- `part_changes` is the tie rule's choice of part q within the stops.
use mathlib.Core.Path.{ap, ◌∙◌}
use lib.ListN.{length}
use Rattle.search_tables.proofs.Filling.{own_is, own_length}
use Rattle.search.proofs.plan.part_changes.Goals as goal

pub offers-requires : goal.offers-requires
offers-requires c = let j = c.args.job.now in
    let ps = j.prices.now in
    let n = length j.positions.now in
    (ap length (own_is ps c.args.q n c.requires.1 j.arrays.few j.arrays.prices) ∙ own_length ps c.args.q n c.requires.1 j.arrays.few j.arrays.prices, c.requires.2)

pub returns : goal.returns
returns c = let j = c.args.job.now in
    let o = c.offers.ensures in
    let own = own_is j.prices.now c.args.q (length j.positions.now) c.requires.1 j.arrays.few j.arrays.prices in
    rw (o.ends, o.places, o.lived.lives, o.lived.begins, o.priced, o.allowed, own) at c.choice.ensures
