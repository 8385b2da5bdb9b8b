-- `hall`: a fault of the text is refused; else the hall is planned. The promise holds of the defined answer.
use mathlib.Core.Path.{◌≡◌, sym, ap, ◌∙◌}
use native.Mathlib.Omega.{arith}
use lib.ListN.{length}
use Rattle.lines.specs.Parser.{accepted, refused}
use Rattle.lines.specs.Fault.{number_of_lem}
use Rattle.lines.specs.Reads.{outcome, seen}
use Rattle.hall_grammar.specs.Reading.{read_hall_lem}
use Rattle.hall_jobs.specs.Views.{hall_of}
use Rattle.planning.specs.Plan.{walk_number_lem}
use Rattle.hall_planning.specs.Hall.{hall_said}
use Rattle.hall_planning.proofs.Promised.{promised, fault_of}
use Rattle.hall_planning.proofs.hall.Goals as goal
use Rattle.hall_planning.proofs.hall.Goals.{In-Err, In-Ok}

-- what the text reads as, by what was read
refused_text : (c : In-Err) → read_hall_lem c.args.text.now ≡ refused (number_of_lem c.in-Err.fault.kind) c.in-Err.fault.line
refused_text c = sym c.read_hall.ensures ∙ ap (λ r. outcome (seen hall_of r)) c.in-Err.is

accepted_text : (c : In-Ok) → read_hall_lem c.args.text.now ≡ accepted (hall_of c.in-Ok.hall)
accepted_text c = sym c.read_hall.ensures ∙ ap (λ r. outcome (seen hall_of r)) c.in-Ok.is

pub refuse-requires : goal.refuse-requires
refuse-requires c = (omega (arith, (fault_of _ _ _ (refused_text (goal.at.refuse-requires c).In-Err)).1), omega arith)

pub plan_hall-requires : goal.plan_hall-requires
plan_hall-requires c = omega (arith, c.walk_number.ensures)

pub returns-in-Err : goal.returns-in-Err
unfolding hall_said
returns-in-Err c = let a = c.args in
    record { replied = rw (refused_text (goal.at.returns-in-Err c).In-Err) c.refuse.ensures; hall_promise = promised a.text.now a.walk (length a.out.now) }

pub returns-in-Ok : goal.returns-in-Ok
unfolding hall_said
returns-in-Ok c = let a = c.args in
    let walked : c.walk_number.result ≡ walk_number_lem a.walk = c.walk_number.ensures in
    record { replied = rw (accepted_text (goal.at.returns-in-Ok c).In-Ok, sym walked) c.plan_hall.ensures; hall_promise = promised a.text.now a.walk (length a.out.now) }
