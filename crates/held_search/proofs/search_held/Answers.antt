-- `search_held` answers the job, for each job that the numbers hold: the walk, the incumbent's name, and its plan.
use mathlib.Core.Path.{◌≡◌, sym, subst}
use mathlib.Core.Bool.{Bool}
use mathlib.Core.List.{List}
use lib.ListN.{length, take}
use Rattle.held_tables.proofs.Sheets.{arrays_of, lanes_are}
use Rattle.model.specs.Promise.{answer_of}
use Rattle.search.specs.declared.Found.{Found}
use Rattle.search.specs.Found.{said_in}
use Rattle.held_search.specs.Solved.{SolvesJob}
use Rattle.held_search.proofs.Answered.{said}
use Rattle.held_search.proofs.search_held.Goals as goal

pub returns : goal.returns
returns c job ho = let n = c.args.numbers.now in
    let j = n.job in
    let limit = c.args.limit in
    let w = c.walked-solved in
    let name = take c.name_of-size.result c.name_of-size.new.name in
    let p = c.plan_of-plan in
    subst (λ (r : Found). said_in (length job.openings) (length job.parts) r ≡ answer_of job limit) (sym c.found_by.ensures)
    (said job j.end j.positions.now j.fees.now j.lives.now j.lefts.now j.prices.now n.needs.now n.removals.now (lanes_are (arrays_of n)) ho limit name w.result
    (subst (λ (xs : List Bool). SolvesJob job limit xs w.result) (sym c.name_of-size.ensures.name) (w.ensures job ho))
    p.result p.ensures.stops p.ensures.changes)
