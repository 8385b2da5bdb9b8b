-- `rise`: the invariant says that no plan costs less than the last cutoff that was passed.
use Prim.Native.Nat.{ℕ}
use mathlib.Core.Path.{◌≡◌, refl, sym, ap, ◌∙◌}
use native.Mathlib.Omega.{arith}
use Rattle.share_walk.specs.Courses.{lift_in, job_course}
use Rattle.free_sources.proofs.Starts.{first_ready}
use Rattle.cutoffs.specs.Ends.{seen}
use Rattle.cutoffs.proofs.Ends.{walks_on, walks_end}
use Rattle.cutoffs.proofs.rise.Goals as goal

pub solve-s-requires : goal.solve-s-requires
solve-s-requires c = let e = c.requires.0 in
    let a = c.args in
    let lift = lift_in a.lifts.now in
    ((e.0, e.1, job_course e.2 lift, first_ready e.0 e.1 e.2 a.t.now a.x.now a.lifts.now e.3 lift (λ k _. refl) c.base_row.new.w c.base_row.ensures), omega (arith, c.loop-low.invariant.0, c.loop-low.invariant.4), c.requires.1)

pub returns-in-Some : goal.returns-in-Some
returns-in-Some c = let l = c.loop-low in
    let v = c.solve-s in
    let a = c.args in
    let lift = lift_in a.lifts.now in
    λ job shares lanes so fair lifted none.
    walks_end l.k l.low v.result job shares fair lanes lift lifted a.limit v.new.best
    (v.ensures job shares (job_course lanes lift) (first_ready job shares lanes a.t.now a.x.now a.lifts.now so lift (λ k _. refl) c.base_row.new.w c.base_row.ensures))
    a.floor a.in_hand c.in-Some.end (sym (ap seen c.in-Some.is) ∙ c.ended_by.ensures) (omega arith) l.invariant.3 (l.invariant.2 (omega arith)) (omega (arith, l.invariant.0, c.last_cutoff-last.ensures.is)) (l.invariant.5 job shares lanes so fair lifted none)

pub loop-low-preserved : goal.loop-low-preserved
loop-low-preserved c = let l = c.loop-low in
    let v = c.solve-s in
    let a = c.args in
    let lift = lift_in a.lifts.now in
    let k = c.next_cutoff-k.ensures in (
      k.0,
      c.next_gap-gap.ensures,
      k.1,
      omega (arith, l.invariant.2 (omega arith), l.invariant.3),
      l.invariant.4,
      λ job shares lanes so fair lifted none.
          walks_on l.k l.low v.result job shares fair lanes lift lifted a.limit v.new.best
          (v.ensures job shares (job_course lanes lift) (first_ready job shares lanes a.t.now a.x.now a.lifts.now so lift (λ k _. refl) c.base_row.new.w c.base_row.ensures))
          (sym (ap seen c.in_default.is) ∙ c.ended_by.ensures),
    )

pub returns : goal.returns
returns c = λ job shares lanes so fair lifted none. record {
  plan_found_lem = λ u e. let z : ◌≡◌ {A = ℕ} 0 1 = cc in absurd (omega arith);
  longer = λ o e. let z : ◌≡◌ {A = ℕ} 0 1 = cc in absurd (omega arith);
  none_under = c.loop-low.invariant.5 job shares lanes so fair lifted none;
  risen = c.loop-low.invariant.3;
  passed = λ e. omega (arith, c.loop-low-test.false, c.last_cutoff-last.ensures.is);
}
