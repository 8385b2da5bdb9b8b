-- `put_parts`: what is put so far stands before the parts that the lists still make.
use Prim.Native.Nat.{◌-◌}
use mathlib.Core.Path.{◌≡◌, sym, ap, ◌∙◌}
use native.Mathlib.Omega.{arith}
use lib.ListN.{length, length-drop}
use Rattle.line_writing.proofs.Putting.{same, room_same}
use Rattle.form_facts.specs.Facts.{PartLists}
use Rattle.form_facts.specs.Views.{lists_of}
use Rattle.part_writing.specs.Cut.{part_cut_lem}
use Rattle.form_writing.proofs.Loop.{putting_start, putting_room, putting_more, putting_end}
use Rattle.form_writing.proofs.parts.put_parts.Goals as goal

pub loop-rest-init : goal.loop-rest-init
loop-rest-init c = putting_start c.args.n (lists_of c.args.parts.now) c.args.out.now c.requires.n_le_most_openings.1

pub part_first-requires : goal.part_first-requires
part_first-requires c = (c.requires.n_le_most_openings.0, c.loop-rest.invariant.agree, c.loop-rest-test.true)

pub put_part-requires : goal.put_part-requires
put_part-requires c = let e = c.part_first.ensures in
    let l = c.loop-rest in
    record {
      marked = e.marked;
      room = room_same (putting_room c.args.n (lists_of c.args.parts.now) c.args.out.now (lists_of l.rest) l.out l.invariant c.loop-rest-test.true c.requires.prices_in_bounds) (sym (ap part_cut_lem e.said));
    }

pub behind_first-rest-requires : goal.behind_first-rest-requires
behind_first-rest-requires c = (c.requires.n_le_most_openings.0, c.loop-rest.invariant.agree, c.loop-rest-test.true)

pub loop-rest-smaller : goal.loop-rest-smaller
loop-rest-smaller c = let xs = c.loop-rest.rest.lives.now in
    let left : length c.behind_first-rest.result.lives.now ≡ length xs - 1 = ap (λ (y : PartLists). length y.lives) c.behind_first-rest.ensures ∙ length-drop 1 xs in
    omega (arith, left, c.loop-rest-test.true)

pub loop-rest-preserved : goal.loop-rest-preserved
loop-rest-preserved c = let l = c.loop-rest in
    let next = c.behind_first-rest in
    putting_more c.args.n (lists_of c.args.parts.now) c.args.out.now (lists_of l.rest) l.out l.invariant c.loop-rest-test.true (lists_of next.result) next.ensures (same c.put_part.ensures (ap part_cut_lem c.part_first.ensures.said))

pub returns : goal.returns
returns c = let l = c.loop-rest in putting_end c.args.n (lists_of c.args.parts.now) c.args.out.now (lists_of l.rest) l.out l.invariant c.loop-rest-test.false
