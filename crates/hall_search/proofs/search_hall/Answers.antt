-- `search_hall` answers the hall: the walk, and each line's plan of its incumbent.
use mathlib.Core.Path.{ap, ◌∙◌}
use native.Mathlib.Omega.{arith}
use Rattle.hall_model.specs.Promise.{hall_answer}
use Rattle.hall_jobs.specs.Views.{hall_of}
use Rattle.hall_search.specs.Found.{hall_said_in}
use Rattle.hall_search.proofs.Answered.{said}
use Rattle.hall_search.proofs.search_hall.Goals as goal

pub walked-solved-requires : goal.walked-solved-requires
walked-solved-requires c = omega (arith, c.ranges.limit)

pub returns : goal.returns
returns c =
    let h = c.args.hall.now in
    ap (hall_said_in h) c.found_by.ensures
    ∙ said h c.from.result c.walked-solved.new.rows c.walked-solved.new.best c.walked-solved.result c.walked-solved.ensures c.plans_of-plans.result c.plans_of-plans.ensures
    ∙ ap (hall_answer (hall_of h)) c.from.ensures
