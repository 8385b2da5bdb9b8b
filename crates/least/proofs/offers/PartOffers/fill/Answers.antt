-- `fill` makes the suffix table, from the last row up. The invariant: rows j and up are right.
use Prim.Native.Nat.{◌-◌}
use native.Mathlib.Omega.{arith}
use Rattle.least.proofs.Rows.{suffix_end, suffix_more, suffix_pred}
use Rattle.least.proofs.offers.PartOffers.fill.Goals as goal

pub loop-j-init : goal.loop-j-init
loop-j-init c = let s = c.args.self.now in
    suffix_end _ _ _ s.positions.now s.prices.now s.allowed.now s.few s.flagged s.cheap c.args.tab.now _ c.requires c.fill_end.ensures

pub loop-j-preserved : goal.loop-j-preserved
loop-j-preserved c = let s = c.args.self.now in
    let l = c.loop-j in
    suffix_more _ _ _ s.positions.now s.prices.now s.allowed.now s.few s.flagged s.cheap l.tab _ (l.j - 1) c.dearer-chg.result (omega arith)
    (suffix_pred _ _ _ s.positions.now s.prices.now s.allowed.now l.tab l.j (omega arith) l.invariant)
    c.dearer-chg.ensures c.fill_row.ensures
