-- `put_openings_left`: the number of the openings that are left, and their lists.
use mathlib.Core.Path.{sym, ap}
use native.Mathlib.Omega.{arith}
use Rattle.lines.specs.Text.{bytes, line_of, texts}
use Rattle.line_writing.proofs.Putting.{then, same, room_same, room_front, room_behind}
use Rattle.job_grammar.specs.Rendering.{opening_text}
use Rattle.carried_writing.proofs.Openings.{past_few, left_size, taken_size, after_step, left_is}
use Rattle.carried_writing.proofs.put_openings_left.Goals as goal

pub renumbered-later-requires : goal.renumbered-later-requires
renumbered-later-requires c = let a = c.args in
    let j = a.job.now in
    let steps = c.opening_lists.result.steps in
    let size = taken_size j a.step a.past c.requires.past steps c.opening_lists.ensures.0 in
    (omega (arith, size, j.job.few_openings), omega (arith, size, past_few j a.step a.past c.requires.past), after_step j a.step a.past c.requires.past steps c.opening_lists.ensures.0)

pub overflow_sub-n : goal.overflow_sub-n
overflow_sub-n c = past_few c.args.job.now c.args.step c.args.past c.requires.past

pub put_count-requires-clause-n_in_bounds : goal.put_count-requires-clause-n_in_bounds
unfolding bytes
put_count-requires-clause-n_in_bounds c = let a = c.args in
    room_same (room_front _ c.requires.steps_in_bounds) (ap (line_of "openings=") (left_size a.job.now a.step a.past c.requires.past))

pub slice_bounds-later-count : goal.slice_bounds-later-count
slice_bounds-later-count c = past_few c.args.job.now c.args.step c.args.past c.requires.past

pub offset_bounds-fees-past : goal.offset_bounds-fees-past
offset_bounds-fees-past c = omega (arith, past_few c.args.job.now c.args.step c.args.past c.requires.past)

pub slice_bounds-put_openings-count : goal.slice_bounds-put_openings-count
slice_bounds-put_openings-count c = past_few c.args.job.now c.args.step c.args.past c.requires.past

pub slice_bounds-put_openings-start : goal.slice_bounds-put_openings-start
slice_bounds-put_openings-start c = omega (arith, past_few c.args.job.now c.args.step c.args.past c.requires.past)

pub put_openings-requires-clause-fees_in_bounds : goal.put_openings-requires-clause-fees_in_bounds
unfolding bytes
put_openings-requires-clause-fees_in_bounds c = let a = c.args in
    let lists = c.opening_lists in
    let put = same c.put_count.ensures (ap (line_of "openings=") (sym (left_size a.job.now a.step a.past c.requires.past))) in
    room_same (room_behind c.requires.steps_in_bounds put)
    (ap (texts opening_text) (sym (left_is a.job.now a.step a.past c.requires.past lists.result.steps lists.ensures.0 c.renumbered-later.result lists.result.fees c.renumbered-later.ensures lists.ensures.1)))

pub returns : goal.returns
unfolding bytes
returns c = let a = c.args in
    let lists = c.opening_lists in
    then (same c.put_count.ensures (ap (line_of "openings=") (sym (left_size a.job.now a.step a.past c.requires.past))))
    (same c.put_openings.ensures
    (ap (texts opening_text) (left_is a.job.now a.step a.past c.requires.past lists.result.steps lists.ensures.0 c.renumbered-later.result lists.result.fees c.renumbered-later.ensures lists.ensures.1)))
