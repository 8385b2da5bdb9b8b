-- `settled` settles the stop of the line at hand, over its rows, and goes on.
use Prim.Native.Nat.{◌+◌, ◌≤◌}
use Rattle.std.specs.Prelude.{None}
use lib.ListN.{set}
use Rattle.hall_lines.specs.Lines.{LineSettled}
use Rattle.hall_state.specs.Courses.{Course, course_in, tables_at, rows_at}
use Rattle.hall_state.specs.Spots.{inner_at, line_spot}
use Rattle.hall_turns.specs.Turns.{StoodAt}
use Rattle.hall_turns.proofs.Settling.{settles, settled_stood, settled_arrived}
use Rattle.hall_turns.proofs.settled.Goals as goal
use Rattle.hall_turns.proofs.settled.Goals.{After-settle_line}

pub settle_line-requires : goal.settle_line-requires
settle_line-requires c =
    let k = c.requires.0.0 in
    let own = course_in k.cs c.args.p.line in
    (own.sheet, (own.blocks, (own.paid, settles k.crewed k.stood c.requires.1 c.requires.0.1 c.openings_before-at.ensures)))

-- the line's course with its stop settled
abbrev after : Course → Course
after c = record { sheet = c.sheet; blocks = c.blocks; paid = c.paid; at = c.at + 1; stop = None }

module _ (c : After-settle_line) (k : StoodAt c.args.ground.now c.args.rows.now c.args.p) (all : inner_at k.hall.jobs c.args.p.line ≤ c.args.stop.next) where
  abbrev own : Course
  own = course_in k.cs c.args.p.line

  -- what settling it finds
  found : LineSettled own.sheet own.blocks (tables_at c.args.ground.now c.args.p.line) (rows_at c.args.rows.now c.args.p.line) c.settle_line.new.own c.openings_before-at.result own.paid c.args.stop
  found = c.settle_line.ensures own.sheet own.blocks own.paid (settles k.crewed k.stood c.requires.1 all c.openings_before-at.ensures)

  -- where the walk stands then
  on : StoodAt c.args.ground.now (set c.args.rows.now c.args.p.line c.settle_line.new.own) (line_spot c.args.p (c.args.p.line + 1) c.args.p.total)
  on = record {
    hall = k.hall;
    name = k.name;
    calls = k.calls;
    cs = set k.cs c.args.p.line (after own);
    crewed = k.crewed;
    stood = settled_stood k.crewed k.stood c.requires.1 all c.openings_before-at.ensures c.told-rows c.settle_line.new.own found;
  }

pub onto-requires : goal.onto-requires
onto-requires c =
    let w = (goal.at.onto-requires c).After-settle_line in
    (c.args.ground.now.lines, (set c.args.rows.now c.args.p.line c.settle_line.new.own, on w c.requires.0.0 c.requires.0.1))

pub returns : goal.returns
unfolding on
returns c =
    let w = (goal.at.returns c).After-settle_line in
    λ k all. settled_arrived k.crewed k.stood c.requires.1 all c.openings_before-at.ensures c.told-rows c.settle_line.new.own (found w k all)
    (c.onto.ensures c.args.ground.now.lines (set c.args.rows.now c.args.p.line c.settle_line.new.own) (on w k all))
