-- `lift_levels`: the invariant says that the lifts are good from the level on.
use Prim.Native.Nat.{ℕ, ◌+◌, ◌-◌}
use mathlib.Core.Path.{◌≡◌, subst, ◌∙◌}
use native.Mathlib.Omega.{arith}
use Rattle.shares.specs.Dolls.{LiftedFrom}
use Rattle.share_walk.specs.Courses.{lift_in}
use Rattle.level_lifts.proofs.Levels.{lifted_none}
use Rattle.level_lifts.proofs.lift_levels.Goals as goal

pub loop-level-init : goal.loop-level-init
loop-level-init c = (omega (arith, c.cell-level.ensures), λ job shares lanes so fair. lifted_none job shares fair c.cell-level.result (c.cell-level.ensures ∙ so.tables.count) (omega (arith, so.tables.few)))

pub lift_level-requires : goal.lift_level-requires
lift_level-requires c = let e = c.requires in
    (e.0, e.1, e.2, e.3, omega (arith, c.loop-level.invariant.0, c.loop-level-test.true, e.3.tables.count))

pub loop-level-preserved : goal.loop-level-preserved
loop-level-preserved c = (
  omega (arith, c.loop-level.invariant.0),
  λ job shares lanes so fair.
      let l = c.loop-level.level in
      let z : l ≡ (l - 1) + 1 = omega (arith, c.loop-level-test.true) in
      c.lift_level.ensures job shares lanes so fair (omega (arith, c.loop-level.invariant.0, c.loop-level-test.true, so.tables.count)) (subst (λ (k : ℕ). LiftedFrom job shares k (lift_in c.loop-level.lifts)) z (c.loop-level.invariant.1 job shares lanes so fair)),
)

pub returns : goal.returns
returns c = λ job shares lanes so fair.
    let z : c.loop-level.level ≡ 0 = omega (arith, c.loop-level-test.false) in
    subst (λ (k : ℕ). LiftedFrom job shares k (lift_in c.loop-level.lifts)) z (c.loop-level.invariant.1 job shares lanes so fair)
