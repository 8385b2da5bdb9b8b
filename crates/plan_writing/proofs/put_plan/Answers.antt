-- `put_plan` meets its contract: two lines, and those of the stops.
use Prim.Native.Nat.{ℕ, ◌≤◌}
use mathlib.Core.Path.{◌≡◌, refl, sym, ap}
use mathlib.Core.List.{List, ◌++◌}
use mathlib.Core.Bool.{false}
use native.Mathlib.Omega.{arith}
use lib.ListN.{length, get_or}
use Rattle.lines.specs.Text.{bytes, line_of, texts}
use Rattle.line_writing.specs.Puts.{Room}
use Rattle.line_writing.proofs.Putting.{then, same, room_same, room_front, room_behind}
use Rattle.jobs.specs.Views.{job_of, plan_for}
use Rattle.plan_grammar.specs.Grammar.{Visit}
use Rattle.plan_grammar.specs.Rendering.{visit_at, visit_text, visits_of, plan_text_lem, plan_lines_of}
use Rattle.jobs.proofs.Jobs.{opening_count_lem2}
use Rattle.base.proofs.Chosen.{chosen_few}
use Rattle.plan_writing.proofs.put_plan.Goals as goal
use Rattle.plan_writing.proofs.put_plan.Goals.{Start}

-- the visits that are written
abbrev made : Start → List Visit
made s = visits_of (job_of s.args.job.now) (plan_for s.args.job.now s.args.plan.now)

-- the two lines and those of the stops
written : (s : Start) → plan_lines_of (job_of s.args.job.now) s.args.cost (plan_for s.args.job.now s.args.plan.now) ≡ line_of "cost=" s.args.cost ++ line_of "stops=" (length (made s)) ++ texts visit_text (made s)
unfolding plan_lines_of plan_text_lem
written s = refl

-- the room for them
room : (s : Start) → Room s.args.out.now (line_of "cost=" s.args.cost ++ line_of "stops=" (length (made s)) ++ texts visit_text (made s))
room s = room_same s.requires.plan_in_bounds (written s)

few : (s : Start) → length (made s) ≤ 64
unfolding visits_of
few s = omega (arith, s.args.job.now.few_openings, opening_count_lem2 s.args.job.now, chosen_few (λ (i : ℕ). get_or (plan_for s.args.job.now s.args.plan.now).stops i false) (visit_at (job_of s.args.job.now) (plan_for s.args.job.now s.args.plan.now)) (length (job_of s.args.job.now).openings))

pub put_line-requires : goal.put_line-requires
unfolding bytes
put_line-requires c = record { n_bound = c.requires.cost_printable; n_in_bounds = room_front _ (room_front _ (room (goal.at.put_line-requires c).Start)) }

pub put_line-requires-2 : goal.put_line-requires-2
unfolding bytes
put_line-requires-2 c = let n = c.count_stops.ensures in
    let s = (goal.at.put_line-requires-2 c).Start in
    record { n_bound = omega (arith, n, few s); n_in_bounds = room_same (room_behind (room_front _ (room s)) c.put_line.ensures) (sym (ap (line_of "stops=") n)) }

pub put_stops-requires : goal.put_stops-requires
unfolding bytes
put_stops-requires c = let counted = same c.put_line-2.ensures (ap (line_of "stops=") c.count_stops.ensures) in
    room_behind (room (goal.at.put_stops-requires c).Start) (then c.put_line.ensures counted)

pub returns : goal.returns
unfolding bytes
returns c = let counted = same c.put_line-2.ensures (ap (line_of "stops=") c.count_stops.ensures) in
    same (then (then c.put_line.ensures counted) c.put_stops.ensures) (sym (written (goal.at.returns c).Start))
