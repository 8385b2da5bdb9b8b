-- `positions_of`: the first i entries are the positions of the first i openings.
use Prim.Native.Nat.{ℕ, ◌+◌, ◌≤◌, ◌<◌}
use mathlib.Core.Path.{◌≡◌, sym, subst, ◌∙◌}
use native.Mathlib.Omega.{arith}
use lib.ListN.{get_or, take, length-set}
use lib.Seq.{get_or-take}
use lib.IntN.{pos}
use Rattle.model.specs.Model.{positions}
use Rattle.jobs.specs.Views.{job_of}
use Rattle.jobs.specs.declared.Opening.{Opening}
use Rattle.clock.specs.Placed.{Position}
use Rattle.clock.proofs.Ranges.{position_bits}
use Rattle.jobs.proofs.Jobs.{blank_opening, opening_at, openings_taken, valid_opening}
use Rattle.clock.proofs.Places.{take_next, position_count, position_at, here_range, end_range, placed}
use Rattle.clock.proofs.positions_of.Goals as goal
use Rattle.clock.proofs.positions_of.Goals.{In-loop-i}

inside : (c : In-loop-i) → c.loop-i.i < c.args.job.now.job.opening_count
inside c = let j = c.args.job.now.job in omega (arith, c.loop-i-test.true, openings_taken j)

-- the opening at hand
here_is : (c : In-loop-i) → get_or (take c.args.job.now.job.opening_count c.args.job.now.job.openings) c.loop-i.i blank_opening ≡ opening_at c.args.job.now.job c.loop-i.i
here_is c = get_or-take c.args.job.now.job.opening_count c.args.job.now.job.openings c.loop-i.i blank_opening (inside c)

-- an opening is a step of the horizon
near : (c : In-loop-i) → (get_or (take c.args.job.now.job.opening_count c.args.job.now.job.openings) c.loop-i.i blank_opening).step ≤ 365
near c = subst (λ (o : Opening). o.step ≤ 365) (sym (here_is c)) (valid_opening c.args.job.now.job c.args.job.now.valid c.loop-i.i (inside c)).step_high

pub bounds-clock-o : goal.bounds-clock-o
bounds-clock-o c = omega (arith, near (goal.at.bounds-clock-o c).In-loop-i)

pub loop-i-preserved : goal.loop-i-preserved
loop-i-preserved c = let l = c.loop-i in
    let j = c.args.job.now.job in
    let at = (goal.at.loop-i-preserved c).In-loop-i in
    let t = inside at in
    let e = c.running_steps-clock.ensures (opening_at j l.i).step (omega (arith, (valid_opening j c.args.job.now.valid l.i t).step_high)) in
    let r = subst Position (sym e) (here_range j c.args.job.now.valid l.i t) in (
      simp length-set l.invariant.0,
      take_next l.at (positions (job_of j)) l.i _ (pos 0) (omega (arith, t, j.few_openings, l.invariant.0)) (rw (position_count j) t) l.invariant.1
          (rw (here_is at) (position_bits (get_or c.running_steps-clock.result (opening_at j l.i).step (pos 0)) r ∙ e ∙ sym (position_at j l.i t))),
    )

pub returns : goal.returns
returns c = let l = c.loop-i in
    let j = c.args.job.now.job in
    let e = c.running_steps-clock.ensures (j.horizon + 1) (omega (arith, c.args.job.now.valid.horizon_high)) in
    let r = subst Position (sym e) (end_range j c.args.job.now.valid) in
    let same : l.i ≡ j.opening_count = omega (arith, c.loop-i-test.false, c.loop-i.auto.i-end, openings_taken j) in
    placed j c.args.job.now.valid _ (subst (λ (i : ℕ). take i l.at ≡ take i (positions (job_of j))) same l.invariant.1)
    (position_bits (get_or c.running_steps-clock.result (j.horizon + 1) (pos 0)) r ∙ e)
