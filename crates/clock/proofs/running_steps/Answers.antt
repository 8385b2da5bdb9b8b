-- `running_steps`: the positions of the steps before s are there. The job itself is behind: what holds, holds for every job with these idle steps.
use Prim.Native.Nat.{ℕ, ◌+◌, ◌≤◌}
use mathlib.Core.Path.{◌≡◌, refl, sym, ap, subst, ◌∙◌}
use mathlib.Core.Bool.{Bool, true, false, cond, not}
use native.Mathlib.Omega.{arith}
use lib.ListN.{get_or, set}
use lib.IntN.{ℤ}
use mir.Syntax.{w32}
use mir.Val.{bool_byte}
use mir.Facts.{to_z_pos}
use Rattle.jobs.specs.Views.{job_of}
use Rattle.clock.proofs.Steps.{Timed, timed_none, timed_more}
use Rattle.clock.proofs.running_steps.Goals as goal

pub loop-s-init : goal.loop-s-init
loop-s-init c = (omega arith, λ job f. timed_none job 367 refl)

-- one for a running step, and none for an idle one
byte_not : (idle : Bool) → bool_byte (not idle) ≡ cond idle 0 1
byte_not true = refl
byte_not false = refl

most : (idle : Bool) → cond idle 0 1 ≤ 1
most true = omega arith
most false = omega arith

pub loop-s-preserved : goal.loop-s-preserved
loop-s-preserved c = let l = c.loop-s in
    let run = l.run + c.from-run.result in
    let next : run ≡ l.run + cond (get_or c.idle_steps-idle.result l.s false) 0 1 = ap (λ (n : ℕ). l.run + n) (c.from-run.ensures ∙ byte_not (get_or c.idle_steps-idle.result l.s false)) in
    let low : run ≤ l.run + 1 = omega (arith, next, most (get_or c.idle_steps-idle.result l.s false)) in (
      omega arith,
      λ job f.
          subst (λ (z : ℤ). Timed job (set l.clock l.s z) run (l.s + 1)) (sym (to_z_pos w32 (omega arith)))
          (timed_more job l.clock l.run l.s run (omega arith) (next ∙ ap (λ (b : Bool). l.run + cond b 0 1) (f l.s (omega arith))) (l.invariant.1 job f)),
    )

pub returns : goal.returns
returns c s h = (c.loop-s.invariant.1 (job_of c.args.job.now.job) c.idle_steps-idle.ensures).done s (omega arith)
