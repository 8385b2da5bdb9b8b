-- `put_idles`: nothing where there are no steps, else their number, and the steps where there are not too many.
use Rattle.std.proofs.Common.{true}
use mathlib.Core.Path.{sym}
use mathlib.Core.Bool.{and-true}
use native.Mathlib.Omega.{arith}
use borrow.Author.Tests.{le-leb, lt-leb}
use lib.Dec.{leb}
use lib.ListN.{length}
use Rattle.lines.specs.Text.{bytes, line_of, texts}
use Rattle.line_writing.proofs.Putting.{none, same, room_same}
use Rattle.form_writing.specs.Cut.{idles_cut}
use Rattle.form_writing.proofs.Pieces.{idles_none, idles_there, counted_room, counted_rest, counted_good, counted_bad}
use Rattle.form_writing.proofs.lists.put_idles.Goals as goal

pub returns-then-n-eq0 : goal.returns-then-n-eq0
returns-then-n-eq0 c = same none (sym (idles_none c.args.idles.now (omega arith)))

pub put_count-requires-clause-n_in_bounds : goal.put_count-requires-clause-n_in_bounds
unfolding bytes idles_cut
put_count-requires-clause-n_in_bounds c = let is = c.args.idles.now in
    counted_room "idles=" 365 true (length is) (texts (line_of "idle=") is) (leb (length is) 365) (sym (and-true _)) (room_same c.requires (idles_there is (omega arith)))

pub put_values-requires : goal.put_values-requires
unfolding bytes idles_cut
put_values-requires c = let is = c.args.idles.now in
    counted_rest "idles=" 365 true (length is) (texts (line_of "idle=") is) (leb (length is) 365) (sym (and-true _)) (room_same c.requires (idles_there is (omega arith))) (le-leb _ _ c.if-good.true) c.put_count.ensures

pub returns-then-good : goal.returns-then-good
unfolding bytes idles_cut
returns-then-good c = let is = c.args.idles.now in
    same (counted_good "idles=" 365 true (length is) (texts (line_of "idle=") is) (leb (length is) 365) (sym (and-true _)) (le-leb _ _ c.if-good.true) c.put_count.ensures c.put_values.ensures) (sym (idles_there is (omega arith)))

pub returns-else-good : goal.returns-else-good
unfolding bytes idles_cut
returns-else-good c = let is = c.args.idles.now in
    same (counted_bad "idles=" 365 true (length is) (texts (line_of "idle=") is) (leb (length is) 365) (sym (and-true _)) (lt-leb _ _ (omega (arith, c.if-good.false))) c.put_count.ensures) (sym (idles_there is (omega arith)))
