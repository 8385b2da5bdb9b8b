-- `stops::mark`: the first i openings are as the definition says.
use Rattle.std.proofs.Common.{ℕ, List, ◌∷◌, [], ◌++◌, ◌<◌, ◌≡◌, Bool, false, ◌||◌, eqb, get_or, take, length, length-set, arith, refl, sym, ap, ◌∙◌}
use mathlib.Core.Path.{ap₂}
use lib.Seq.{get_or-take}
use Rattle.base.proofs.Arrays.{take_more}
use Rattle.model.proofs.Lists.{table_more}
use Rattle.model.specs.Model.{table}
use Rattle.jobs.specs.Views.{job_of}
use Rattle.jobs.proofs.Jobs.{opening_at, opening_count_lem2}
use Rattle.plan_grammar.proofs.Jobs.{step_at_lem}
use Rattle.plan_stops.specs.Marks.{with_step}
use Rattle.plan_stops.proofs.stops.mark.Goals as goal
use Rattle.plan_stops.proofs.stops.mark.Goals.{Joined-set-i, then-set-i, else-set-i}
use Rattle.plan_stops.proofs.stops.mark.Invariants.{entry}

pub loop-i-init : goal.loop-i-init
unfolding table
loop-i-init c = record { long = refl; marked = refl }

-- what is stored at i
stored : (c : Joined-set-i) → let a = c.args in
    c.if-set-i.marks ≡ entry (job_of a.job.now) a.step (take a.job.now.opening_count a.set) c.loop-i.i
stored c =
    let a = c.args in
    let i = c.loop-i.i in
    let h = c.loop-i-test.true in
    let stored : c.if-set-i.marks ≡ (get_or a.set i false || eqb a.step (opening_at a.job.now i).step) = elim c.if-set-i.branch [ then-set-i w ↦ rw w.if-set-i.true (w.marks-is ∙ w.if-set-i.true) | else-set-i w ↦ rw w.if-set-i.false w.marks-is ] in
    stored ∙ sym (ap₂ (λ (b : Bool) (t : ℕ). b || eqb a.step t) (get_or-take a.job.now.opening_count a.set i false h) (step_at_lem a.job.now i h))

pub loop-i-preserved : goal.loop-i-preserved
loop-i-preserved c = let l = c.loop-i in
    let h : l.i < length l.marks = omega arith in
    record {
      long = simp length-set l.invariant.long;
      marked = take_more l.i l.marks _ h ∙ ap₂ (λ (xs : List Bool) (b : Bool). xs ++ b ∷ []) l.invariant.marked (stored (goal.at.loop-i-preserved c).Joined-set-i) ∙ sym (table_more _ l.i);
    }

pub returns : goal.returns
unfolding with_step
returns c = let a = c.args in
    let same : c.loop-i.i ≡ a.job.now.opening_count = omega arith in
    let marked : ℕ → List Bool = table (entry (job_of a.job.now) a.step (take a.job.now.opening_count a.set)) in
    ap (λ (k : ℕ). take k c.loop-i.marks) (sym same) ∙ c.loop-i.invariant.marked ∙ ap marked (same ∙ sym (opening_count_lem2 a.job.now))
