-- `least` is the least price: row 0, mark 0 of the suffix table.
use mathlib.Core.Path.{◌∙◌}
use native.Mathlib.Omega.{arith}
use Rattle.least.proofs.Rows.{row_read}
use Rattle.least.proofs.offers.PartOffers.least.Goals as goal

pub returns : goal.returns
returns c = let s = c.args.self.now in
    c.bound.ensures
    ∙ row_read _ _ _ s.positions.now s.prices.now s.allowed.now s.few s.flagged s.cheap _ 0 0 0 (omega arith) (omega arith) (omega arith) c.fill.ensures
