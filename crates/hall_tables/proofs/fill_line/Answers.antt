-- `fill_line` fills the tables of the job's sheet, by the classes of its parts, and begins over them.
use Prim.Native.Nat.{ℕ}
use mathlib.Core.Path.{sym, subst}
use mathlib.Core.Bool.{Bool}
use mathlib.Core.List.{List}
use lib.ListN.{length}
use Rattle.lane_rows.specs.Sheet.{Sheet}
use Rattle.lane_rows.specs.Tables.{Tables}
use Rattle.held_rows.specs.Held.{HeldSheet, plain, Classed}
use Rattle.part_classes.specs.declared.classes.Classes.{Classes}
use Rattle.part_classes.specs.Grouped.{grouping, Grouped}
use Rattle.held_tables.specs.declared.numbers.HeldNumbers.{HeldNumbers}
use Rattle.held_tables.specs.Numbers.{sheet_with}
use Rattle.held_tables.proofs.Sheets.{arrays_of, plain_is, classed, sheet_of_lem}
use Rattle.jobs.specs.Views.{job_of}
use Rattle.hall_tables.proofs.fill_line.Goals as goal
use Rattle.hall_tables.proofs.fill_line.Goals.{After-fill_held}

module _ (c : After-fill_held) where
  abbrev n : HeldNumbers
  n = c.held-numbers.result

  abbrev classes : Classes
  classes = c.classes_of-classes.result

  abbrev sheet : HeldSheet
  sheet = sheet_with n classes

  own : Grouped n.needs.now (length n.removals.now) (length n.job.lives.now) (grouping classes)
  own =
      let m = length n.job.lives.now in
      let e = c.needs.ensures in
      subst (λ (h : ℕ). Grouped n.needs.now h m (grouping classes)) e.holding
      (subst (λ (nd : List Bool). Grouped nd c.needs.result.holding m (grouping classes)) e.marks c.classes_of-classes.ensures)

  tables : Tables (plain sheet) c.fill_rows.new.t
  tables =
      subst (λ (x : Sheet). Tables x c.fill_rows.new.t)
      (sym (plain_is n.job.end n.job.positions.now n.job.fees.now n.job.lives.now n.job.lefts.now n.job.prices.now n.needs.now n.removals.now classes (arrays_of n) own))
      c.fill_rows.ensures

  fit : Classed sheet
  fit = classed n.job.end n.job.positions.now n.job.fees.now n.job.lives.now n.job.lefts.now n.job.prices.now n.needs.now n.removals.now classes (arrays_of n) own c.fill_rows.new.t tables

pub begin_line-requires : goal.begin_line-requires
begin_line-requires c = let k = (goal.at.begin_line-requires c).After-fill_held in (sheet k, tables k, c.fill_held.ensures, fit k)

pub returns : goal.returns
returns c =
    let k = (goal.at.returns c).After-fill_held in
    let n = c.held-numbers.result in
    let j = n.job in
    record {
      sheet = sheet k;
      holds = sheet_of_lem j.end j.positions.now j.fees.now j.lives.now j.lefts.now j.prices.now n.needs.now n.removals.now (classes k) (arrays_of n) (own k) (job_of c.args.job.now.job) c.held-numbers.ensures;
      begun = c.begin_line.ensures (sheet k) (tables k) c.fill_held.ensures (fit k);
    }
