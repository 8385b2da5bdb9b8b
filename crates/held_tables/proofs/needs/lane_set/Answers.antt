-- `lane_set` gathers the lanes from the last on. The invariant: those from q on are gathered.
use Rattle.std.proofs.Common.{◌≡◌, ◌-◌, ◌+◌, ◌*◌, ◌∙◌, ℕ, Bool, sym, subst, get_or, arith}
use Rattle.part_classes.specs.Grouped.{need_in}
use Rattle.held_tables.proofs.Sets.{Gathered, gathered_none, gathered_more, gathered_all, gathered_fits}
use Rattle.base.proofs.Bools.{bit_of, cond_most}
use Rattle.held_tables.proofs.needs.lane_set.Goals as goal

pub loop-q-init : goal.loop-q-init
loop-q-init c = let a = c.args in gathered_none (λ (q : ℕ). need_in a.needs.now.marks.now a.classes.now a.b (get_or a.classes.now.lanes q 0))

pub overflow_mul-set : goal.overflow_mul-set
overflow_mul-set c = omega (arith, gathered_fits _ c.loop-q.invariant)

pub overflow_add-set : goal.overflow_add-set
overflow_add-set c = omega (arith, gathered_fits _ c.loop-q.invariant, c.from.ensures, bit_of c.needs_part.result, cond_most c.needs_part.result 1)

pub loop-q-preserved : goal.loop-q-preserved
loop-q-preserved c = let l = c.loop-q in
    let a = c.args in
    let f : ℕ → Bool = λ (q : ℕ). need_in a.needs.now.marks.now a.classes.now a.b (get_or a.classes.now.lanes q 0) in
    let z : l.q ≡ l.q - 1 + 1 = omega (arith, c.loop-q-test.true) in
    subst (λ (x : ℕ). Gathered f (l.q - 1) (l.set * 2 + x)) (sym (c.from.ensures ∙ bit_of c.needs_part.result))
    (gathered_more f (l.q - 1) l.set c.needs_part.result c.needs_part.ensures (subst (λ (x : ℕ). Gathered f x l.set) z l.invariant))

pub returns : goal.returns
returns c = let a = c.args in
    let l = c.loop-q in
    let f : ℕ → Bool = λ (q : ℕ). need_in a.needs.now.marks.now a.classes.now a.b (get_or a.classes.now.lanes q 0) in
    let z : l.q ≡ 0 = omega (arith, c.loop-q-test.false) in
    let (lanes, small) = gathered_all f l.set (subst (λ (x : ℕ). Gathered f x l.set) z l.invariant) in
    record { lanes = lanes; small = small }
