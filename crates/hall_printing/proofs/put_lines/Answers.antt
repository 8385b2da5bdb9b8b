-- `put_lines`: the lines of the plans yielded so far are put.
use Prim.Native.Nat.{ℕ, ◌≤◌, ◌<◌}
use mathlib.Core.Path.{◌≡◌, sym, ap, ap₂, subst, ◌∙◌}
use mathlib.Core.List.{List, [], ◌∷◌}
use native.Mathlib.Omega.{arith}
use lib.ListN.{length, get_or, take, length-append}
use lib.Seq.{take_all, length-take-le}
use Rattle.std.proofs.Common.{rules}
use Rattle.std.proofs.lemmas.Slice.Zip.{zip_turn, zip_end}
use Rattle.lines.specs.Text.{texts}
use Rattle.line_writing.specs.Puts.{Puts}
use Rattle.line_writing.proofs.Putting.{none, same, room_same, room_next, next}
use Rattle.jobs.specs.declared.accepted.Accepted.{Accepted}
use Rattle.hall_printing.specs.Lines.{LinePlan, own_lines}
use Rattle.hall_printing.specs.Finding.{line_held}
use Rattle.hall_printing.proofs.Held.{held, held_size, held_at}
use Rattle.hall_printing.proofs.put_lines.Goals as goal
use Rattle.hall_printing.proofs.put_lines.Goals.{Start, In-Some}

-- the lines of the hall, and with their plans
abbrev jobs : Start → List Accepted
jobs s = take s.args.hall.now.count s.args.hall.now.jobs

abbrev all : Start → List LinePlan
all s = held (jobs s) s.args.plans.now

-- there is a plan for each, and as many of both
few : (s : Start) → length (jobs s) ≤ length s.args.plans.now
few s = let h = s.args.hall.now in omega (arith, h.few, h.long, length-take-le h.count h.jobs (omega (arith, h.few, h.long)))

count : (s : Start) → length (all s) ≡ length (jobs s)
count s = held_size (jobs s) s.args.plans.now (few s)

pub loop-job-init : goal.loop-job-init
loop-job-init c = none

-- the line at hand, with its plan, is the next of them
record Turn (c : In-Some) : Type 0 where
  inside : length c.loop-job.yielded < length (take c.args.hall.now.count c.args.hall.now.jobs)
  is : own_lines (get_or (held (take c.args.hall.now.count c.args.hall.now.jobs) c.args.plans.now) (length c.loop-job.yielded) (line_held c.in-Some.job.now c.in-Some.plan.now)) ≡ own_lines (line_held c.in-Some.job.now c.in-Some.plan.now)

turn : (c : In-Some) → length (take c.args.hall.now.count c.args.hall.now.jobs) ≤ length c.args.plans.now → Turn c
turn c few =
    let l = c.loop-job in
    let ks = take c.args.hall.now.count c.args.hall.now.jobs in
    let vs = c.args.plans.now in
    let job = c.in-Some.job.now in
    let plan = c.in-Some.plan.now in
    let z = zip_turn ks vs l.yielded c.into_iter-job-iterator.result l.job-iterator c.next.new.self _ (search rules) (search rules) l.yielded_by (c.in-Some.job, c.in-Some.plan) c.in-Some.is c.next.ensures.steps in
    record {
      inside = z.0;
      is = ap own_lines (held_at ks vs (length l.yielded) job plan (line_held job plan) few z.0 ∙ ap₂ line_held (sym (z.2 job)) (sym (z.3 plan)));
    }

pub put_own-requires : goal.put_own-requires
put_own-requires c = let s = (goal.at.put_own-requires c).Start in
    let l = c.loop-job in
    let t = turn (goal.at.put_own-requires c).In-Some (few s) in
    room_same (room_next own_lines (all s) (length l.yielded) (line_held c.in-Some.job.now c.in-Some.plan.now) c.requires l.invariant (omega (arith, count s, t.inside))) t.is

pub loop-job-preserved : goal.loop-job-preserved
loop-job-preserved c = let s = (goal.at.loop-job-preserved c).Start in
    let l = c.loop-job in
    let t = turn (goal.at.loop-job-preserved c).In-Some (few s) in
    subst (λ (k : ℕ). Puts c.args.out.now (texts own_lines (take k (all s))) c.put_own.new.out) (sym (length-append l.yielded ((c.in-Some.job, c.in-Some.plan) ∷ [])))
    (next own_lines (all s) (length l.yielded) (line_held c.in-Some.job.now c.in-Some.plan.now) (omega (arith, count s, t.inside)) l.invariant (same c.put_own.ensures (sym t.is)))

pub returns : goal.returns
returns c = let s = (goal.at.returns c).Start in
    let l = c.loop-job in
    let e = zip_end (jobs s) c.args.plans.now l.yielded c.into_iter-job-iterator.result l.job-iterator c.next.new.self _ (search rules) (search rules) l.yielded_by c.in-None.is c.next.ensures.steps in
    same l.invariant (ap (texts own_lines) (take_all (length l.yielded) (all s) (omega (arith, count s, e, few s))))
