-- `sum_at`: place by place, the number there if the place belongs to the set.
use Prim.Native.Nat.{ℕ, ◌≤◌, ◌<◌}
use mathlib.Core.Path.{◌≡◌, sym, ap₂, ◌∙◌}
use mathlib.Core.Bool.{Bool, false, cond}
use native.Mathlib.Omega.{arith}
use lib.ListN.{get_or, take}
use lib.Seq.{get_or-take, length-take-le}
use Rattle.std.proofs.Common.{rules}
use Rattle.model.specs.Limits.{dearest}
use Rattle.model.proofs.Sums.{sum_same}
use Rattle.model.proofs.Totals.{sum_at_lem}
use Rattle.base.proofs.Lists.{all_at}
use Rattle.plan_costs.proofs.Sums.{little}
use Rattle.plan_costs.proofs.summing.sum_at.Goals as goal

pub sum_of-requires-clause-small : goal.sum_of-requires-clause-small
sum_of-requires-clause-small c k x h said =
    let a = c.args in
    let e : x ≡ cond (get_or a.marks.now k false) (get_or a.numbers.now k 0) 0 = search rules in
    let at = all_at (λ (n : ℕ). n ≤ dearest) (take a.n a.numbers.now) 0 k c.requires.3 (omega (arith, h, length-take-le a.n a.numbers.now c.requires.1)) in
    rw e (little (get_or a.marks.now k false) (get_or a.numbers.now k 0) (rw (get_or-take a.n a.numbers.now k 0 h) at at))

pub returns : goal.returns
returns c =
    let a = c.args in
    let f : ℕ → ℕ = λ k. cond (get_or a.marks.now k false) (get_or a.numbers.now k 0) 0 in
    c.sum_of.ensures f (λ k x h said. search rules)
    ∙ sym (sum_at_lem (take a.n a.numbers.now) (take a.n a.marks.now) a.n (length-take-le a.n a.marks.now c.requires.2)
    ∙ sum_same a.n 0 _ f (λ k _ l. let h : k < a.n = omega arith in ap₂ (λ (b : Bool) (n : ℕ). cond b n 0) (get_or-take a.n a.marks.now k false h) (get_or-take a.n a.numbers.now k 0 h)))
