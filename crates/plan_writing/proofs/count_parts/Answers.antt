-- `count_parts` meets its contract. The invariant: n of the parts so far are changed.
use Prim.Native.Nat.{ℕ, ◌+◌, ◌≤◌}
use mathlib.Core.Path.{◌≡◌, refl, sym, ap, ap₂, ◌∙◌}
use mathlib.Core.Bool.{Bool, false, cond}
use native.Mathlib.Omega.{arith}
use lib.ListN.{get_or, take}
use lib.Seq.{get_or-take}
use Rattle.base.specs.Joined.{joined}
use Rattle.base.specs.Chosen.{chosen}
use Rattle.jobs.specs.Views.{blank_changes, changed_in}
use Rattle.jobs.specs.declared.Changes.{Changes}
use Rattle.base.proofs.Chosen.{chosen_count, chosen_few}
use Rattle.base.proofs.Bools.{bit_of, bit_most}
use Rattle.plan_writing.proofs.count_parts.Goals as goal
use Rattle.plan_writing.proofs.count_parts.Goals.{In-loop-part}

-- whether the part at hand is changed
changed : (c : In-loop-part) → get_or (get_or (take c.args.m c.args.plan.now.changes) c.loop-part.part-index blank_changes).at c.args.i false ≡ changed_in c.args.plan.now c.args.i c.loop-part.part-index
changed c = ap (λ (x : Changes). get_or x.at c.args.i false) (get_or-take c.args.m c.args.plan.now.changes c.loop-part.part-index blank_changes (omega arith))

pub loop-part-init : goal.loop-part-init
unfolding chosen joined
loop-part-init c = refl

pub overflow_add-n : goal.overflow_add-n
overflow_add-n c = let one : c.from-n.result ≤ 1 = rw c.from-n.ensures (bit_most _) in
    omega (arith, one, chosen_few (changed_in c.args.plan.now c.args.i) (λ (k : ℕ). k + 1) c.loop-part.part-index)

pub loop-part-preserved : goal.loop-part-preserved
loop-part-preserved c = let a = c.args in
    let l = c.loop-part in
    let one = c.from-n.ensures ∙ bit_of _ in
    ap₂ (λ (n m : ℕ). n + m) l.invariant (one ∙ ap (λ (b : Bool). cond b 1 0) (changed (goal.at.loop-part-preserved c).In-loop-part)) ∙ sym (chosen_count (changed_in a.plan.now a.i) (λ (k : ℕ). k + 1) l.part-index)
