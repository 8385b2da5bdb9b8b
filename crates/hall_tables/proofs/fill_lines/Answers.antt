-- `fill_lines` fills one line's tables after the other, and sums up the floors.
use Prim.Native.Nat.{ℕ, ◌≤◌}
use mathlib.Core.Path.{refl, sym, subst, ◌∙◌}
use native.Mathlib.Omega.{arith}
use lib.ListN.{get_or, length-set}
use Rattle.branch.specs.declared.Bound.TheVariants.{Missing, Sum}
use Rattle.branch.proofs.Bounds.{no_sum_lem}
use Rattle.model.specs.Model.{Job}
use Rattle.hall_model.specs.Hall.{Placed}
use Rattle.hall_nodes.proofs.Bounds.{slot_most}
use Rattle.hall_jobs.specs.declared.HallJobs.{HallJobs}
use Rattle.hall_jobs.specs.Hall.{line_of_lem}
use Rattle.hall_jobs.specs.Views.{jobs_of, hall_of}
use Rattle.hall_jobs.proofs.Lines.{lines_count, line_below, line_is, line_there}
use Rattle.hall_tables.specs.Filled.{LineFilled, Begun}
use Rattle.hall_tables.proofs.Floors.{floor_first, floor_gone, floor_on, floor_low, floor_last, begun_more}
use Rattle.hall_tables.proofs.fill_lines.Goals as goal
use Rattle.hall_tables.proofs.fill_lines.Goals.{In-Sum}

pub loop-d-init : goal.loop-d-init
loop-d-init c = record {
  lines = c.told-lines;
  rows = c.told-rows;
  floor = floor_first (hall_of c.args.hall.now);
  low = omega arith;
  done = λ e job l at. absurd (omega (arith, l));
}

pub returns-in_default : goal.returns-in_default
returns-in_default c =
    let h = c.args.hall.now in
    let a = c.index-hall-d.result in
    record {
      floor = sym (floor_gone (hall_of h) c.loop-d.d (line_of_lem (get_or h.jobs c.loop-d.d a)) (line_there h c.loop-d.d a c.loop-d-test.true) c.fill_line-own.ensures c.in_default.is);
      each = λ f e. absurd (no_sum_lem Missing f refl e);
    }

module _ (c : In-Sum) where
  abbrev h : HallJobs
  h = c.args.hall.now

  abbrev d : ℕ
  d = c.loop-d.d

  abbrev job : Job
  job = line_of_lem (get_or h.jobs d c.index-hall-d.result)

  at : Placed (jobs_of h) d job
  at = line_there h d c.index-hall-d.result c.loop-d-test.true

  low : c.in-Sum.own ≤ slot_most
  low = floor_low (hall_of h) d job at c.fill_line-own.ensures c.in-Sum.own c.in-Sum.is

  begun : (j : Job) → Placed (jobs_of h) d j → Begun j c.fill_line-own.new.tables c.fill_line-own.new.own
  begun j p =
      let e = line_is h d c.index-hall-d.result j p in (
        c.in-Sum.own,
        subst (λ (x : Job). LineFilled x c.fill_line-own.new.tables c.fill_line-own.new.own (Sum c.in-Sum.own)) e
            (subst (LineFilled job c.fill_line-own.new.tables c.fill_line-own.new.own) c.in-Sum.is c.fill_line-own.ensures),
      )

pub loop-d-preserved : goal.loop-d-preserved
loop-d-preserved c =
    let k = (goal.at.loop-d-preserved c).In-Sum in
    let l = c.loop-d in
    let i = l.invariant in
    let tb = c.fill_line-own.new.tables in
    let o = c.fill_line-own.new.own in
    record {
      lines = length-set l.lines l.d tb ∙ i.lines;
      rows = length-set l.rows l.d o ∙ i.rows;
      floor = floor_on (hall_of (h k)) l.d (job k) (at k) c.fill_line-own.ensures c.in-Sum.own c.in-Sum.is l.floor i.floor;
      low = omega (arith, i.low, low k);
      done = begun_more (jobs_of (h k)) l.lines l.rows l.d tb o (omega (arith, c.loop-d-test.true, (h k).few, i.lines)) (omega (arith, c.loop-d-test.true, (h k).few, i.rows)) i.done (begun k);
    }

pub overflow_add-floor : goal.overflow_add-floor
overflow_add-floor c =
    let k = (goal.at.overflow_add-floor c).In-Sum in
    omega (arith, c.loop-d.invariant.low, low k, c.loop-d-test.true, c.args.hall.now.few)

pub returns : goal.returns
returns c =
    let h = c.args.hall.now in
    let l = c.loop-d in
    record {
      floor = floor_last (hall_of h) l.floor l.d (omega (arith, c.loop-d-test.false, lines_count h)) l.invariant.floor;
      each = λ f e d job at. l.invariant.done d job (omega (arith, line_below h d job at, c.loop-d-test.false)) at;
    }
