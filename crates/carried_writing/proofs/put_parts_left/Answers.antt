-- `put_parts_left`: the number of parts, and the lines of the first k are put.
use Prim.Native.Nat.{ℕ, ◌<◌}
use mathlib.Core.Path.{◌≡◌, sym, ap}
use mathlib.Core.List.{List}
use native.Mathlib.Omega.{arith}
use lib.ListN.{length, get_or}
use lib.Seq.{take_all}
use Rattle.lines.specs.Text.{bytes, line_of, texts}
use Rattle.line_writing.proofs.Putting.{none, then, same, room_same, room_front, room_behind, room_next, next}
use Rattle.model.specs.Verdict.{no_part}
use Rattle.job_text.specs.Views.{text_in}
use Rattle.part_lines.specs.Grammar.{PartText}
use Rattle.part_lines.specs.Rendering.{part_text}
use Rattle.part_lines.specs.Views.{blank_said, part_lines_lem}
use Rattle.carried_writing.specs.Left.{part_left, parts_left}
use Rattle.carried_writing.proofs.Parts.{lines, left_size, left_at}
use Rattle.carried_writing.proofs.put_parts_left.Goals as goal
use Rattle.carried_writing.proofs.put_parts_left.Goals.{Start, In-loop-k}

-- what stands past the parts
abbrev blank : PartText
blank = part_lines_lem blank_said no_part

-- the parts that are left
abbrev all : Start → List PartText
all s = parts_left (length (text_in s.args.text.now).openings) s.args.past s.args.lefts.now (text_in s.args.text.now).parts

size : (s : Start) → length (all s) ≡ s.args.text.now.job.job.part_count
size s = left_size s.args.text.now s.args.past s.args.lefts.now

pub put_count-requires-clause-n_in_bounds : goal.put_count-requires-clause-n_in_bounds
unfolding bytes
put_count-requires-clause-n_in_bounds c = let s = (goal.at.put_count-requires-clause-n_in_bounds c).Start in
    room_same (room_front _ c.requires.lefts_in_bounds) (ap (line_of "parts=") (size s))

pub loop-k-init : goal.loop-k-init
loop-k-init c = none

-- the lines of the one at hand
at_hand : (s : Start) (k : ℕ) (h : k < s.args.text.now.job.job.part_count) → get_or (all s) k blank ≡ part_left s.args.text.now.job.job.opening_count s.args.past (get_or s.args.lefts.now k 0) (lines s.args.text.now k h)
at_hand s k h = left_at s.args.text.now s.args.past s.args.lefts.now k blank h

pub put_part_left-requires-clause-left_in_bounds : goal.put_part_left-requires-clause-left_in_bounds
unfolding bytes
put_part_left-requires-clause-left_in_bounds c = let s = (goal.at.put_part_left-requires-clause-left_in_bounds c).Start in
    let k = c.loop-k.k in
    let put = same c.put_count.ensures (ap (line_of "parts=") (sym (size s))) in
    room_same (room_next part_text (all s) k blank (room_behind c.requires.lefts_in_bounds put) c.loop-k.invariant (omega (arith, c.loop-k-test.true, size s))) (ap part_text (at_hand s k c.loop-k-test.true))

pub loop-k-preserved : goal.loop-k-preserved
loop-k-preserved c = let s = (goal.at.loop-k-preserved c).Start in
    let k = c.loop-k.k in
    next part_text (all s) k blank (omega (arith, c.loop-k-test.true, size s)) c.loop-k.invariant (same c.put_part_left.ensures (ap part_text (sym (at_hand s k c.loop-k-test.true))))

pub returns : goal.returns
unfolding bytes
returns c = let s = (goal.at.returns c).Start in
    let k = c.loop-k.k in
    then (same c.put_count.ensures (ap (line_of "parts=") (sym (size s)))) (same c.loop-k.invariant (ap (texts part_text) (take_all k (all s) (omega (arith, c.loop-k-test.false, c.loop-k.auto.k-end, size s)))))
