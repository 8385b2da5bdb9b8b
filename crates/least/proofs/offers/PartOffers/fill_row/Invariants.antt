use mathlib.Core.Bool.{false}
use lib.ListN.{get_or}
use Rattle.least.specs.Suffix.{cell, row_of}
use Rattle.base.specs.Filled.{FilledBy}
use Rattle.least.proofs.offers.PartOffers.fill_row.Given as goal

abbrev pub invariant-loop-i : goal.invariant-loop-i
invariant-loop-i l = FilledBy (cell l.j) (row_of l.self.life l.self.first l.self.positions.now l.j (get_or l.self.allowed.now l.j false) l.chg l.initial.tab) l.i l.initial.tab l.tab
