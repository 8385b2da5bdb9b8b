-- `put_stops` meets its contract. The invariant: the lines of the stops among the first i openings are put.
use Prim.Native.Nat.{ℕ}
use mathlib.Core.Path.{◌≡◌, sym, ap, ◌∙◌}
use mathlib.Core.List.{[]}
use mathlib.Core.Bool.{Bool, true, false, cond}
use native.Mathlib.Omega.{arith}
use lib.ListN.{get_or, take}
use lib.Seq.{get_or-take}
use Rattle.lines.specs.Text.{texts}
use Rattle.base.specs.Joined.{joined}
use Rattle.line_writing.proofs.Putting.{none, same, room_same, room_turn, turn}
use Rattle.jobs.specs.Views.{job_of, plan_for}
use Rattle.plan_grammar.specs.Rendering.{visit_at, visit_text, visits_of}
use Rattle.jobs.proofs.Jobs.{opening_count_lem2}
use Rattle.lines.proofs.Texts.{chosen-texts}
use Rattle.plan_text.proofs.Chosen.{stops_are}
use Rattle.plan_writing.proofs.put_stops.Goals as goal
use Rattle.plan_writing.proofs.put_stops.Invariants.{piece}
use Rattle.plan_writing.proofs.put_stops.Goals.{In-loop-i, Start, then-stop, else-stop}

-- all the lines, piece by piece
pieces : (s : Start) → let job = s.args.job.now in
    let plan = s.args.plan.now in
    texts visit_text (visits_of (job_of job) (plan_for job plan)) ≡ joined (piece job plan) job.opening_count
pieces s =
    let job = s.args.job.now in
    let plan = s.args.plan.now in
    ap (texts visit_text) (stops_are (job_of job) job.opening_count job.part_count plan (opening_count_lem2 job))
    ∙ chosen-texts visit_text (λ (i : ℕ). get_or plan.stops i false) (visit_at (job_of job) (plan_for job plan)) job.opening_count

-- the opening's lines are those of a stop where one is made, and none where none is
piece_is : (c : In-loop-i) (b : Bool) → let job = c.args.job.now in
    let plan = c.args.plan.now in
    get_or (take job.opening_count plan.stops) c.loop-i.i false ≡ b → piece job plan c.loop-i.i ≡ cond b (visit_text (visit_at (job_of job) (plan_for job plan) c.loop-i.i)) []
piece_is c b e =
    let job = c.args.job.now in
    let plan = c.args.plan.now in
    ap (λ (t : Bool). cond t (visit_text (visit_at (job_of job) (plan_for job plan) c.loop-i.i)) []) (sym (get_or-take job.opening_count plan.stops c.loop-i.i false (omega arith)) ∙ e)

pub loop-i-init : goal.loop-i-init
unfolding joined
loop-i-init c = none

pub put_visit-requires-clause-i_in_bounds : goal.put_visit-requires-clause-i_in_bounds
put_visit-requires-clause-i_in_bounds c = let a = c.args in
    let here = goal.at.put_visit-requires-clause-i_in_bounds c in
    room_same
    (room_turn (piece a.job.now a.plan.now) c.loop-i.i a.job.now.opening_count (room_same c.requires (pieces here.Start)) c.loop-i.invariant (omega arith))
    (piece_is here.In-loop-i true c.if-stop.true)

pub loop-i-preserved : goal.loop-i-preserved
loop-i-preserved c = let f = piece c.args.job.now c.args.plan.now in
    let here = (goal.at.loop-i-preserved c).In-loop-i in
    elim c.if-stop.branch [
      | then-stop w ↦ rw w.out-is (turn f c.loop-i.i c.loop-i.invariant (same w.put_visit.ensures (sym (piece_is here true w.if-stop.true))))
      | else-stop w ↦ rw w.out-is (turn f c.loop-i.i c.loop-i.invariant (same none (sym (piece_is here false w.if-stop.false))))
    ]

pub returns : goal.returns
returns c = let end : c.loop-i.i ≡ c.args.job.now.opening_count = omega arith in
    same c.loop-i.invariant (ap (joined (piece c.args.job.now c.args.plan.now)) end ∙ sym (pieces (goal.at.returns c).Start))
