-- `look_at` writes the row behind the step.
use mathlib.Core.Path.{sym, subst, ◌∙◌}
use mathlib.Core.Bool.{Bool, cond}
use mathlib.Core.List.{[], ◌∷◌, ◌++◌}
use native.Mathlib.Omega.{arith}
use borrow.Author.Rules.{rules}
use Rattle.hall_jobs.specs.Views.{jobs_of}
use Rattle.hall_jobs.proofs.Lines.{lines_count}
use Rattle.hall_crew.specs.Crew.{Rowed}
use Rattle.hall_crew.proofs.Rows.{with_row, row_more, row_levels}
use Rattle.hall_crew.proofs.look_at.Goals as goal

pub row_behind-row-requires : goal.row_behind-row-requires
row_behind-row-requires c d l = let h = c.args.hall.now in row_levels (jobs_of h) c.requires.rows.0 c.args.ats.now c.requires.rows.1 d (omega (arith, l, lines_count h))

pub returns-clause-rows : goal.returns-clause-rows
returns-clause-rows c done r =
    let there = sym c.some_opens.ensures ∙ c.if-not-some_opens.false in
    subst (λ (o : Bool). Rowed (jobs_of c.args.hall.now) (done ++ cond o (c.args.step ∷ []) []) (with_row c.args.ats.now c.row_behind-row.result)) (sym there)
    (row_more (jobs_of c.args.hall.now) done c.args.step c.args.ats.now c.row_behind-row.result r (omega (arith, r.count, c.requires.room there)) (search rules) c.row_behind-row.ensures)
