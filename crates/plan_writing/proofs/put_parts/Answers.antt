-- `put_parts` meets its contract. The invariant: the lines of those of the first k parts that are changed are put.
use Prim.Native.Nat.{ℕ, ◌+◌}
use mathlib.Core.Path.{◌≡◌, sym, ap, ◌∙◌}
use mathlib.Core.List.{[]}
use mathlib.Core.Bool.{Bool, true, false, cond}
use native.Mathlib.Omega.{arith}
use lib.ListN.{get_or, take}
use lib.Seq.{get_or-take}
use Rattle.lines.specs.Text.{bytes, line_of, texts}
use Rattle.base.specs.Joined.{joined}
use Rattle.line_writing.proofs.Putting.{none, same, room_same, room_turn, turn}
use Rattle.jobs.specs.Views.{blank_changes, changed_in}
use Rattle.jobs.specs.declared.Changes.{Changes}
use Rattle.plan_text.specs.Views.{numbers_at}
use Rattle.lines.proofs.Texts.{chosen-texts}
use Rattle.plan_writing.proofs.put_parts.Goals as goal
use Rattle.plan_writing.proofs.put_parts.Invariants.{piece}
use Rattle.plan_writing.proofs.put_parts.Goals.{In-loop-k, Start, then-part-i, else-part-i}

pub loop-k-init : goal.loop-k-init
unfolding joined
loop-k-init c = none

-- all the lines, piece by piece
pieces : (s : Start) → let a = s.args in
    texts (line_of "part=") (numbers_at a.plan.now a.m a.i) ≡ joined (piece a.plan.now a.i) a.m
pieces s = chosen-texts (line_of "part=") (changed_in s.args.plan.now s.args.i) (λ (k : ℕ). k + 1) s.args.m

-- whether the part at hand is changed
changed : (c : In-loop-k) → get_or (get_or (take c.args.m c.args.plan.now.changes) c.loop-k.k blank_changes).at c.args.i false ≡ changed_in c.args.plan.now c.args.i c.loop-k.k
changed c = ap (λ (x : Changes). get_or x.at c.args.i false) (get_or-take c.args.m c.args.plan.now.changes c.loop-k.k blank_changes (omega arith))

-- its line is what is put for it where it is, and nothing where it is not
piece_is : (c : In-loop-k) (b : Bool) → get_or (get_or (take c.args.m c.args.plan.now.changes) c.loop-k.k blank_changes).at c.args.i false ≡ b → piece c.args.plan.now c.args.i c.loop-k.k ≡ cond b (line_of "part=" (c.loop-k.k + 1)) []
piece_is c b e = ap (λ (t : Bool). cond t (line_of "part=" (c.loop-k.k + 1)) []) (sym (changed c) ∙ e)

pub put_line-requires-clause-n_in_bounds : goal.put_line-requires-clause-n_in_bounds
unfolding bytes
put_line-requires-clause-n_in_bounds c = let a = c.args in
    let here = goal.at.put_line-requires-clause-n_in_bounds c in
    room_same
    (room_turn (piece a.plan.now a.i) c.loop-k.k a.m (room_same c.requires.i_in_bounds (pieces here.Start)) c.loop-k.invariant (omega arith))
    (piece_is here.In-loop-k true c.if-part-i.true)

pub loop-k-preserved : goal.loop-k-preserved
unfolding bytes
loop-k-preserved c = let f = piece c.args.plan.now c.args.i in
    let here = (goal.at.loop-k-preserved c).In-loop-k in
    elim c.if-part-i.branch [
      | then-part-i w ↦ rw w.out-is (turn f c.loop-k.k c.loop-k.invariant (same w.put_line.ensures (sym (piece_is here true w.if-part-i.true))))
      | else-part-i w ↦ rw w.out-is (turn f c.loop-k.k c.loop-k.invariant (same none (sym (piece_is here false w.if-part-i.false))))
    ]

pub returns : goal.returns
returns c = let end : c.loop-k.k ≡ c.args.m = omega arith in
    same c.loop-k.invariant (ap (joined (piece c.args.plan.now c.args.i)) end ∙ sym (pieces (goal.at.returns c).Start))
