-- `lefts_at`: the first k entries are the lives not yet used of the first k parts.
use Prim.Native.Nat.{ℕ, ◌≤◌, ◌<◌}
use mathlib.Core.Path.{◌≡◌, refl, sym, ap, ap₂, ◌∙◌}
use mathlib.Core.Bool.{Bool}
use mathlib.Core.List.{List, [], ◌∷◌, ◌++◌}
use native.Mathlib.Omega.{arith}
use lib.ListN.{take, length-set}
use lib.IntN.{ℤ, pos, ◌-ℤ◌}
use Rattle.base.proofs.Arrays.{take_more}
use Rattle.model.specs.Model as model
use Rattle.model.specs.Model.{table}
use Rattle.model.specs.Limits.{longest_life}
use Rattle.model.proofs.Lists.{table_more}
use Rattle.jobs.specs.Views.{job_of, plan_for}
use Rattle.jobs.proofs.Jobs.{part_at, part_count, part_at_lem, parts_taken, taken_at, valid_part, valid_taken}
use Rattle.jobs.proofs.Plans.{enough_changes, changes_at_lem}
use Rattle.clock.proofs.Ranges.{position_bits, before_bits}
use Rattle.carry.specs.Carry.{natural, unused}
use Rattle.log_lives.specs.Done.{left_at}
use Rattle.log_lives.proofs.lefts_at.Goals as goal

pub loop-k-init : goal.loop-k-init
unfolding table
loop-k-init c = (refl, refl)

pub late_to-followed-requires : goal.late_to-followed-requires
late_to-followed-requires c = let to = c.position_of-to.ensures.1 in
    let j = c.args.past.now.job in (
      c.positions_of-positions.ensures,
      rw c.part_at-part.ensures (valid_taken j c.args.past.now.valid c.loop-k.k c.loop-k-test.true),
      rw (position_bits _ to) to,
    )

pub left_at-requires : goal.left_at-requires
left_at-requires c = let to = c.position_of-to.ensures.1 in
    let j = c.args.past.now.job in
    let high : c.part_at-part.result.life ≤ longest_life = rw c.part_at-part.ensures ((valid_taken j c.args.past.now.valid c.loop-k.k c.loop-k-test.true).life_high) in
    let begins = c.late_to-followed.ensures.2 in
    (high, rw (before_bits _ _ high begins) begins, rw (position_bits _ to) to)

pub loop-k-preserved : goal.loop-k-preserved
loop-k-preserved c = let l = c.loop-k in
    let j = c.args.past.now.job in
    let job = job_of j in
    let t : l.k < j.part_count = omega (arith, c.loop-k-test.true, parts_taken j) in
    let same = c.part_at-part.ensures ∙ taken_at j l.k c.loop-k-test.true in
    let followed = rw same at c.late_to-followed.ensures in
    let at = c.position_of-to.ensures in
    let life = (part_at j l.k).life in
    let last = before_bits life _ (valid_part j c.args.past.now.valid l.k t).life_high followed.2 ∙ followed.1 in
    let left = (rw same at c.left_at.ensures) ∙ ap₂ (λ (now last : ℤ). natural (pos life -ℤ (now -ℤ last))) (position_bits _ at.1 ∙ at.0) last in
    let here = ap₂ (λ (q : model.Part) (d : List Bool). natural (unused job c.args.step q d)) (sym (part_at_lem j l.k t))
    (sym (changes_at_lem j.opening_count j.part_count c.args.plan.now.changes (enough_changes j c.args.plan.now) l.k t)) in (
      simp length-set l.invariant.0,
      take_more l.k l.lefts _ (omega (arith, j.few_parts, l.invariant.0)) ∙ ap₂ (λ (xs : List ℕ) (x : ℕ). xs ++ x ∷ []) l.invariant.1 (left ∙ here) ∙ sym (table_more _ l.k),
    )

pub returns : goal.returns
returns c = let l = c.loop-k in
    let j = c.args.past.now.job in
    let same : l.k ≡ j.part_count = omega (arith, c.loop-k-test.false, l.auto.k-end, parts_taken j) in
    ap (λ (n : ℕ). take n l.lefts) (sym same) ∙ l.invariant.1 ∙ ap (table (left_at (job_of c.args.past.now.job) c.args.step (plan_for c.args.past.now.job c.args.plan.now))) (same ∙ sym (part_count c.args.past.now.job))
