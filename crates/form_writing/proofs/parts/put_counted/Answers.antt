-- `put_counted`: the number of parts, and the parts where they are not too many and their lists agree.
use Rattle.std.proofs.Common.{rules, tests, ◌≡◌, ◌∙◌, sym}
use mathlib.Core.Bool.{◌&&◌, and-eq-true_iff}
use lib.Dec.{leb}
use lib.ListN.{length}
use Rattle.lines.specs.Text.{bytes, texts}
use Rattle.form_facts.specs.Facts.{PartLists, parts_of, parts_agree_lem}
use Rattle.form_facts.specs.Views.{lists_of}
use Rattle.form_facts.proofs.Facts.{agree_says}
use Rattle.part_writing.specs.Cut.{part_cut_lem}
use Rattle.form_writing.specs.Cut.{parts_cut}
use Rattle.form_writing.proofs.Pieces.{counted_room, counted_rest, counted_good, counted_bad}
use Rattle.form_writing.proofs.parts.put_counted.Goals as goal
use Rattle.form_writing.proofs.parts.put_counted.Goals.{Joined-m, then-m, else-m}

abbrev x : Joined-m → PartLists
x c = lists_of c.args.parts.now

-- whether the count is good
good_is : (c : Joined-m) → c.if-m.good ≡ (leb (length (x c).lives) 16 && parts_agree_lem c.args.n (x c))
good_is c = search (rules, tests)

pub put_count-requires-clause-n_in_bounds : goal.put_count-requires-clause-n_in_bounds
unfolding bytes parts_cut
put_count-requires-clause-n_in_bounds c = let h = (goal.at.put_count-requires-clause-n_in_bounds c).Joined-m in
    counted_room "parts=" 16 (parts_agree_lem c.args.n (x h)) (length (x h).lives) (texts part_cut_lem (parts_of c.args.n (x h))) c.if-m.good (good_is h) c.requires.prices_in_bounds

pub put_parts-requires-clause-n_le_most_openings : goal.put_parts-requires-clause-n_le_most_openings
put_parts-requires-clause-n_le_most_openings c = let h = (goal.at.put_parts-requires-clause-n_le_most_openings c).Joined-m in
    (c.requires.n_le_most_openings, agree_says c.args.n (x h) ((and-eq-true_iff _ _).0 (sym (good_is h) ∙ c.if-good.true)).1)

pub put_parts-requires-clause-prices_in_bounds : goal.put_parts-requires-clause-prices_in_bounds
unfolding bytes parts_cut
put_parts-requires-clause-prices_in_bounds c = let h = (goal.at.put_parts-requires-clause-prices_in_bounds c).Joined-m in
    counted_rest "parts=" 16 (parts_agree_lem c.args.n (x h)) (length (x h).lives) (texts part_cut_lem (parts_of c.args.n (x h))) c.if-m.good (good_is h) c.requires.prices_in_bounds c.if-good.true c.put_count.ensures

pub returns-then-good : goal.returns-then-good
unfolding bytes parts_cut
returns-then-good c = let h = (goal.at.returns-then-good c).Joined-m in
    counted_good "parts=" 16 (parts_agree_lem c.args.n (x h)) (length (x h).lives) (texts part_cut_lem (parts_of c.args.n (x h))) c.if-m.good (good_is h) c.if-good.true c.put_count.ensures c.put_parts.ensures

pub returns-else-good : goal.returns-else-good
unfolding bytes parts_cut
returns-else-good c = let h = (goal.at.returns-else-good c).Joined-m in
    counted_bad "parts=" 16 (parts_agree_lem c.args.n (x h)) (length (x h).lives) (texts part_cut_lem (parts_of c.args.n (x h))) c.if-m.good (good_is h) c.if-good.false c.put_count.ensures
