-- `undecided` says whether a removal or an opening is left.
use Prim.Native.Nat.{ℕ}
use mathlib.Core.Path.{sym, ap, ◌∙◌}
use mathlib.Core.Bool.{Bool, not, ◌&&◌}
use native.Mathlib.Omega.{arith}
use borrow.Author.Tests.{lt-ltb, le-ltb}
use lib.Dec.{eqb}
use lib.ListN.{get_or}
use Rattle.lane_rows.specs.Layout.{count_place}
use Rattle.share_rows.specs.Places.{holds_place}
use Rattle.share_walk.proofs.undecided.Goals as goal

pub returns-then-p-number : goal.returns-then-p-number
returns-then-p-number c = let a = c.args in
    let k = get_or a.x.now holds_place 0 in
    sym (ap (λ (b : Bool). not (not b && eqb a.p.at (get_or a.t.now count_place 0))) (lt-ltb a.p.next k (omega (arith, c.if-p-number.true, c.number.ensures.value))))

pub returns : goal.returns
returns c = let a = c.args in
    let k = get_or a.x.now holds_place 0 in
    ap (λ (n : ℕ). not (eqb a.p.at n)) c.cell.ensures
    ∙ sym (ap (λ (b : Bool). not (not b && eqb a.p.at (get_or a.t.now count_place 0))) (le-ltb a.p.next k (omega (arith, c.if-p-number.false, c.number.ensures.value))))
