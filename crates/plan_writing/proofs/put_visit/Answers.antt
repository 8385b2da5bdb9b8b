-- `put_visit` meets its contract: two lines, and those of the parts.
use Prim.Native.Nat.{ℕ, ◌+◌, ◌≤◌}
use mathlib.Core.Path.{◌≡◌, sym, ap, ap₂}
use mathlib.Core.List.{List, ◌++◌}
use native.Mathlib.Omega.{arith}
use lib.ListN.{length}
use Rattle.lines.specs.Text.{bytes, line_of, texts}
use Rattle.line_writing.specs.Puts.{Puts, Room}
use Rattle.line_writing.proofs.Putting.{then, same, room_same, room_front, room_behind}
use Rattle.jobs.specs.Views.{job_of, changed_in, plan_for}
use Rattle.jobs.proofs.Jobs.{opening_at}
use Rattle.plan_grammar.specs.Rendering.{visit_at, visit_text}
use Rattle.plan_text.specs.Views.{numbers_at}
use Rattle.jobs.proofs.Plans.{enough_changes}
use Rattle.plan_grammar.proofs.Jobs.{step_at_lem}
use Rattle.base.proofs.Chosen.{chosen_few}
use Rattle.plan_text.proofs.Chosen.{numbers_are}
use Rattle.plan_writing.proofs.put_visit.Goals as goal
use Rattle.plan_writing.proofs.put_visit.Goals.{Start, After-put_line}

-- the step of the opening, and the parts changed there, as the code finds them
abbrev step : Start → ℕ
step s = (opening_at s.args.job.now s.args.i).step

abbrev numbers : Start → List ℕ
numbers s = numbers_at s.args.plan.now s.args.job.now.part_count s.args.i

-- the three pieces
written : (s : Start) → visit_text (visit_at (job_of s.args.job.now) (plan_for s.args.job.now s.args.plan.now) s.args.i)
    ≡ line_of "stop=" (step s) ++ line_of "count=" (length (numbers s)) ++ texts (line_of "part=") (numbers s)
unfolding visit_text
written s =
    ap₂ (λ (t : ℕ) (ks : List ℕ). line_of "stop=" t ++ line_of "count=" (length ks) ++ texts (line_of "part=") ks)
    (step_at_lem s.args.job.now s.args.i s.requires.sized)
    (sym (numbers_are s.args.job.now.opening_count s.args.job.now.part_count s.args.plan.now s.args.i (enough_changes s.args.job.now s.args.plan.now) s.requires.sized))

-- the room for them
room : (s : Start) → Room s.args.out.now (line_of "stop=" (step s) ++ line_of "count=" (length (numbers s)) ++ texts (line_of "part=") (numbers s))
room s = room_same s.requires.i_in_bounds (written s)

few : (s : Start) → length (numbers s) ≤ 16
few s = omega (arith, s.args.job.now.few_parts, chosen_few (changed_in s.args.plan.now s.args.i) (λ (k : ℕ). k + 1) s.args.job.now.part_count)

-- the line of the step
first : (c : After-put_line) → Puts c.args.out.now (line_of "stop=" (opening_at c.args.job.now c.args.i).step) c.put_line.new.self
unfolding bytes
first c = same c.put_line.ensures (ap (line_of "stop=") c.from.ensures)

pub put_line-requires-clause-n_in_bounds : goal.put_line-requires-clause-n_in_bounds
unfolding bytes
put_line-requires-clause-n_in_bounds c = room_same (room_front _ (room_front _ (room (goal.at.put_line-requires-clause-n_in_bounds c).Start))) (sym (ap (line_of "stop=") c.from.ensures))

pub count_parts-requires : goal.count_parts-requires
count_parts-requires c = omega (arith, c.requires.sized)

pub put_line-requires-2 : goal.put_line-requires-2
unfolding bytes
put_line-requires-2 c = let n = c.count_parts.ensures in
    let s = (goal.at.put_line-requires-2 c).Start in
    record { n_bound = omega (arith, n, few s); n_in_bounds = room_same (room_behind (room_front _ (room s)) (first (goal.at.put_line-requires-2 c).After-put_line)) (sym (ap (line_of "count=") n)) }

pub put_parts-requires : goal.put_parts-requires
unfolding bytes
put_parts-requires c = let counted = same c.put_line-2.ensures (ap (line_of "count=") c.count_parts.ensures) in
    record { m_le_most_parts = omega (arith, c.requires.sized); i_in_bounds = room_behind (room (goal.at.put_parts-requires c).Start) (then (first (goal.at.put_parts-requires c).After-put_line) counted) }

pub returns : goal.returns
unfolding bytes
returns c = let counted = same c.put_line-2.ensures (ap (line_of "count=") c.count_parts.ensures) in
    same (then (then (first (goal.at.returns c).After-put_line) counted) c.put_parts.ensures) (sym (written (goal.at.returns c).Start))
