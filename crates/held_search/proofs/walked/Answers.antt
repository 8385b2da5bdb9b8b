-- `walked` is the search of the job: its tables, filled by its classes, and `solve` over them.
use Prim.Native.Nat.{ℕ}
use mathlib.Core.Path.{◌≡◌, sym, subst}
use mathlib.Core.Bool.{Bool}
use mathlib.Core.List.{List}
use native.Mathlib.Omega.{arith}
use lib.ListN.{length}
use Rattle.lane_rows.specs.Sheet.{Sheet}
use Rattle.lane_rows.specs.Tables.{Tables}
use Rattle.held_places.specs.declared.needs.Needs.{Needs}
use Rattle.held_places.proofs.Held.{opened, holding}
use Rattle.held_rows.specs.Held.{HeldSheet, plain, Classed}
use Rattle.part_classes.specs.declared.classes.Classes.{Classes}
use Rattle.part_classes.specs.Grouped.{grouping, Grouped}
use Rattle.held_tables.specs.declared.numbers.HeldNumbers.{HeldNumbers}
use Rattle.held_tables.specs.Numbers.{sheet_with}
use Rattle.held_tables.proofs.Sheets.{arrays_of, plain_is, classed, sheet_of_lem}
use Rattle.held_search.proofs.Answered.{solves_job}
use Rattle.held_search.proofs.walked.Goals as goal
use Rattle.held_search.proofs.walked.Goals.{After-fill_held}

-- the classes are those of the parts' needs
grouped : (n : HeldNumbers) (needs : Needs) (k : Classes) → needs.marks.now ≡ n.needs.now → needs.holding ≡ length n.removals.now → Grouped needs.marks.now needs.holding (length n.job.lives.now) (grouping k)
    → Grouped n.needs.now (length n.removals.now) (length n.job.lives.now) (grouping k)
grouped n needs k e f g =
    let m = length n.job.lives.now in
    subst (λ (h : ℕ). Grouped n.needs.now h m (grouping k)) f (subst (λ (nd : List Bool). Grouped nd needs.holding m (grouping k)) e g)

-- ---- what is known once the tables are filled

module _ (c : After-fill_held) where
  abbrev n : HeldNumbers
  n = c.args.numbers.now

  abbrev classes : Classes
  classes = c.classes_of-classes.result

  abbrev sheet : HeldSheet
  sheet = sheet_with n classes

  own : Grouped n.needs.now (length n.removals.now) (length n.job.lives.now) (grouping classes)
  own = let e = c.needs-needs in grouped n e.result classes e.ensures.marks e.ensures.holding c.classes_of-classes.ensures

  abbrev t : List ℕ
  t = c.fill_rows.new.t

  tables : Tables (plain sheet) t
  tables =
      subst (λ (x : Sheet). Tables x t)
      (sym (plain_is n.job.end n.job.positions.now n.job.fees.now n.job.lives.now n.job.lefts.now n.job.prices.now n.needs.now n.removals.now classes (arrays_of n) own))
      c.fill_rows.ensures

  fit : Classed sheet
  fit = classed n.job.end n.job.positions.now n.job.fees.now n.job.lives.now n.job.lefts.now n.job.prices.now n.needs.now n.removals.now classes (arrays_of n) own t tables

pub fill_held-requires-clause-grouped : goal.fill_held-requires-clause-grouped
fill_held-requires-clause-grouped c = let e = c.needs-needs in grouped c.args.numbers.now e.result c.classes_of-classes.result e.ensures.marks e.ensures.holding c.classes_of-classes.ensures

pub solve-requires : goal.solve-requires
solve-requires c = let k = (goal.at.solve-requires c).After-fill_held in ((sheet k, tables k, c.fill_held.ensures, fit k), omega (arith, c.requires))

pub returns : goal.returns
returns c job ho = let k = (goal.at.returns c).After-fill_held in
    let n = c.args.numbers.now in
    let j = n.job in
    solves_job job (sheet k) c.args.limit c.solve.new.v c.solve.result
    (sheet_of_lem j.end j.positions.now j.fees.now j.lives.now j.lefts.now j.prices.now n.needs.now n.removals.now (classes k) (arrays_of n) (own k) job ho)
    (holding job j.end j.positions.now j.fees.now j.lives.now j.lefts.now j.prices.now n.needs.now n.removals.now ho)
    (opened job j.end j.positions.now j.fees.now j.lives.now j.lefts.now j.prices.now n.needs.now n.removals.now ho)
    (c.solve.ensures (sheet k) (tables k) c.fill_held.ensures (fit k))
