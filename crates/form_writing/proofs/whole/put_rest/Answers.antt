-- `put_rest`: the number of openings, and what follows it where they are not too many and have as many fees.
use Rattle.std.proofs.Common.{rules, tests, ◌≡◌}
use mathlib.Core.Bool.{◌&&◌}
use mathlib.Core.List.{List}
use Prim.Native.Nat.{ℕ}
use lib.Dec.{leb}
use lib.ListN.{length}
use Rattle.lines.specs.Text.{bytes}
use Rattle.form_facts.specs.Facts.{fees_agree}
use Rattle.form_facts.specs.Views.{lists_of}
use Rattle.form_writing.specs.Cut.{body_cut, rest_cut}
use Rattle.form_writing.proofs.Pieces.{counted_room, counted_rest, counted_good, counted_bad}
use Rattle.form_writing.proofs.whole.put_rest.Goals as goal
use Rattle.form_writing.proofs.whole.put_rest.Goals.{Joined-n, then-n, else-n}

-- what follows the number
abbrev body : Joined-n → List ℕ
body c = let f = c.args.form.now in body_cut f.openings.now f.fees.now (lists_of f.parts)

-- whether the count is good
good_is : (c : Joined-n) → let f = c.args.form.now in c.if-n.good ≡ (leb (length f.openings.now) 64 && fees_agree f.openings.now f.fees.now)
good_is c = search (rules, tests)

pub put_count-requires-clause-n_in_bounds : goal.put_count-requires-clause-n_in_bounds
unfolding bytes rest_cut
put_count-requires-clause-n_in_bounds c = let h = (goal.at.put_count-requires-clause-n_in_bounds c).Joined-n in
    let f = c.args.form.now in
    counted_room "openings=" 64 (fees_agree f.openings.now f.fees.now) (length f.openings.now) (body h) c.if-n.good (good_is h) c.requires

pub put_body-requires-clause-prices_in_bounds : goal.put_body-requires-clause-prices_in_bounds
unfolding bytes rest_cut
put_body-requires-clause-prices_in_bounds c = let h = (goal.at.put_body-requires-clause-prices_in_bounds c).Joined-n in
    let f = c.args.form.now in
    counted_rest "openings=" 64 (fees_agree f.openings.now f.fees.now) (length f.openings.now) (body h) c.if-n.good (good_is h) c.requires c.if-good.true c.put_count.ensures

pub returns-then-good : goal.returns-then-good
unfolding bytes rest_cut
returns-then-good c = let h = (goal.at.returns-then-good c).Joined-n in
    let f = c.args.form.now in
    counted_good "openings=" 64 (fees_agree f.openings.now f.fees.now) (length f.openings.now) (body h) c.if-n.good (good_is h) c.if-good.true c.put_count.ensures c.put_body.ensures

pub returns-else-good : goal.returns-else-good
unfolding bytes rest_cut
returns-else-good c = let h = (goal.at.returns-else-good c).Joined-n in
    let f = c.args.form.now in
    counted_bad "openings=" 64 (fees_agree f.openings.now f.fees.now) (length f.openings.now) (body h) c.if-n.good (good_is h) c.if-good.false c.put_count.ensures
