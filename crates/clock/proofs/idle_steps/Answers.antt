-- `idle_steps`: the flags of the idle steps so far are set.
use Prim.Native.Nat.{ℕ, ◌≤◌, ◌<◌}
use mathlib.Core.Path.{refl, subst}
use mathlib.Core.List.{List}
use native.Mathlib.Omega.{arith}
use lib.ListN.{length, get_or, take, length-set}
use lib.Seq.{take_all}
use Rattle.model.proofs.Positions.{rising_within}
use Rattle.jobs.proofs.Jobs.{idles_taken}
use Rattle.clock.specs.Placed.{Flags}
use Rattle.clock.proofs.Steps.{flags_none, flags_more}
use Rattle.clock.proofs.idle_steps.Goals as goal
use Rattle.clock.proofs.idle_steps.Goals.{In-loop-step}

pub loop-step-init : goal.loop-step-init
loop-step-init c = (refl, flags_none 367)

inside : (c : In-loop-step) → c.loop-step.step-index < length (take c.args.job.now.job.idle_count c.args.job.now.job.idles)
inside c = let j = c.args.job.now.job in
    omega (arith, c.loop-step-test.true, idles_taken j)

-- an idle step is one of the horizon's
small : (c : In-loop-step) → get_or (take c.args.job.now.job.idle_count c.args.job.now.job.idles) c.loop-step.step-index 0 ≤ 365
small c = let j = c.args.job.now.job in
    omega (arith, rising_within j.horizon 0 (take j.idle_count j.idles) c.args.job.now.valid.idles c.loop-step.step-index (inside c), c.args.job.now.valid.horizon_high)

pub bounds-flags-step : goal.bounds-flags-step
bounds-flags-step c = omega (arith, small (goal.at.bounds-flags-step c).In-loop-step)

pub loop-step-preserved : goal.loop-step-preserved
loop-step-preserved c = let l = c.loop-step in
    let j = c.args.job.now.job in
    let here = (goal.at.loop-step-preserved c).In-loop-step in (
      simp length-set l.invariant.0,
      flags_more (take j.idle_count j.idles) l.flags l.step-index (inside here) (omega (arith, small here, l.invariant.0)) l.invariant.1,
    )

pub returns : goal.returns
returns c = let l = c.loop-step in
    let j = c.args.job.now.job in
    subst (λ (is : List ℕ). Flags is l.flags) (take_all l.step-index (take j.idle_count j.idles) (omega (arith, c.loop-step-test.false, idles_taken j))) l.invariant.1
