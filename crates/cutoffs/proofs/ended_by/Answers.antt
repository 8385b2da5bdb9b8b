-- `ended_by` tests what the definition tests, in its order.
use Prim.Native.Nat.{ℕ}
use mathlib.Core.Path.{sym, ap, ◌∙◌}
use mathlib.Core.Bool.{Bool}
use lib.Dec.{ltb}
use borrow.Author.Tests.{lt-ltb, le-ltb}
use Rattle.std.specs.Prelude.{Some, Ok}
use Rattle.cutoffs.specs.Ends.{plain, seen}
use Rattle.cutoffs.proofs.Ends.{End}
use Rattle.cutoffs.proofs.ended_by.Goals as goal

pub returns-then-s : goal.returns-then-s
unfolding seen plain
returns-then-s c = let a = c.args in sym (ap (λ (b : Bool). End a.k a.floor a.s b (ltb a.s.cost a.k)) c.if-s.true)

pub returns-then-k-s : goal.returns-then-k-s
unfolding seen
returns-then-k-s c = let a = c.args in sym ((λ i. End a.k a.floor a.s (c.if-s.false i) (le-ltb a.s.cost a.k c.if-k-s.true i)))

pub returns : goal.returns
unfolding seen plain
returns c = let a = c.args in
    ap (λ (n : ℕ). Some (Ok (Some (a.s.cost, n)), a.floor)) c.min.ensures ∙ sym (λ i. End a.k a.floor a.s (c.if-s.false i) (lt-ltb a.s.cost a.k c.if-k-s.false i))
