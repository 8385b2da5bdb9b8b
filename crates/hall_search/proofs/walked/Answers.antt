-- `walked` is the search of the hall: its lines filled, and the walk over them from the first call on.
use mathlib.Core.Path.{sym, ap, subst, ◌∙◌}
use mathlib.Core.List.{[]}
use Rattle.std.specs.Prelude.{Option}
use native.Mathlib.Omega.{arith}
use Rattle.search_state.specs.State.{open_s, solved_s}
use Rattle.held_nodes.proofs.Root.{fresh}
use Rattle.hall_jobs.specs.Views.{hall_of}
use Rattle.hall_state.specs.declared.Ground.{Ground}
use Rattle.hall_state.specs.declared.Spot.{Spot}
use Rattle.hall_state.specs.Moves.{Crewed}
use Rattle.hall_search.specs.Walked.{first_by, HallSearched}
use Rattle.hall_search.proofs.Begins.{FirstReached, first_reached}
use Rattle.hall_search.proofs.Ends.{searched}
use Rattle.hall_search.proofs.walked.Goals as goal
use Rattle.hall_search.proofs.walked.Goals.{After-fill_lines-floor, After-root-first}

-- what is reached over the filled lines
module _ (c : After-fill_lines-floor) where
  abbrev ground : Ground
  ground = record { lines = c.fill_lines-floor.new.lines; ats = c.crew_steps.result }

  crewed : Crewed (hall_of c.args.hall.now) c.crew_steps.result
  crewed = record { table = c.crew_steps.ensures; fits = c.args.hall.now.fits }

  abbrev Reached : Option Spot → Type 0
  Reached q = FirstReached (hall_of c.args.hall.now) ground c.fill_lines-floor.new.rows c.fill_lines-floor.result c.args.limit c.args.best.now q

  floor_reached : Reached (first_by (open_s c.args.limit 0 c.fill_lines-floor.result fresh))
  floor_reached = first_reached ground c.fill_lines-floor.new.rows crewed c.args.limit c.args.best.now c.fill_lines-floor.result c.fill_lines-floor.ensures

-- it is what the walk is handed
reached : (c : After-root-first) → Reached (goal.at.After-root-first c).After-fill_lines-floor c.root-first.result
reached c = let k = (goal.at.After-root-first c).After-fill_lines-floor in subst (Reached k) (sym c.root-first.ensures) (floor_reached k)

pub root-first-requires : goal.root-first-requires
root-first-requires c x e = omega (arith, (floor_reached (goal.at.root-first-requires c).After-fill_lines-floor).fits x e)

pub walk-requires : goal.walk-requires
walk-requires c =
    let r = reached (goal.at.walk-requires c).After-root-first in
    (record { hall = hall_of c.args.hall.now; name = []; kept = []; calls = 0; cs = r.cs; reaches = r.reaches }, omega (arith, c.requires))

pub returns : goal.returns
returns c =
    let hall = hall_of c.args.hall.now in
    let r = reached (goal.at.returns c).After-root-first in
    let floor = c.fill_lines-floor.result in
    subst (HallSearched hall c.args.limit c.walk.new.rows c.walk.new.best) (sym (c.solved.ensures ∙ ap (solved_s floor c.args.limit) c.search-end.ensures))
    (searched floor c.fill_lines-floor.ensures.floor r.reaches r.left r.holds (c.walk.ensures (record { hall = hall; name = []; kept = []; calls = 0; cs = r.cs; reaches = r.reaches })))
