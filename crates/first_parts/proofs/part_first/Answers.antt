-- `part_first`: its lines of removal and its prices are those of the lists.
use Rattle.form_facts.specs.Views.{lists_of}
use Rattle.first_parts.proofs.Fronts.{first_cover, first_prices}
use Rattle.first_parts.proofs.part_first.Goals as goal

pub cover_first-cover-requires : goal.cover_first-cover-requires
cover_first-cover-requires c = let r = c.requires in first_cover c.args.n (lists_of c.args.parts.now) r.0 r.1 r.2

pub prices_first-prices-requires : goal.prices_first-prices-requires
prices_first-prices-requires c = let r = c.requires in first_prices c.args.n (lists_of c.args.parts.now) r.0 r.1 r.2
