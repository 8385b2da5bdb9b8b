-- `late_to`: after the openings yielded so far, what is found and what the rest gives are the part's first long gap up to the position, and its last change.
use Prim.Native.Nat.{ℕ, ◌+◌, ◌≤◌, ◌<◌}
use mathlib.Core.Path.{◌≡◌, sym, ap, subst, ◌∙◌}
use mathlib.Core.Bool.{false}
use mathlib.Core.List.{[], ◌∷◌, ◌++◌}
use native.Mathlib.Omega.{arith}
use lib.ListN.{length, get_or, take, length-append}
use lib.Seq.{length-take-le}
use lib.IntN.{ℤ, pos, ◌-ℤ◌}
use mir.Syntax.{w32}
use mir.Val.{to_z, of_z}
use Rattle.std.proofs.Common.{rules}
use Rattle.std.proofs.lemmas.Slice.Zip.{zip_turn, zip_end}
use Rattle.model.specs.Model.{positions, select}
use Rattle.model.specs.Verdict.{last_of}
use Rattle.jobs.specs.Views.{job_of}
use Rattle.clock.specs.Placed.{Position}
use Rattle.clock.proofs.Ranges.{position_bits, begins_later, first_bits}
use Rattle.jobs.proofs.Jobs.{opening_count_lem2}
use Rattle.clock.proofs.Places.{position_count, place_is}
use Rattle.plan_lives.specs.Views.{model_gaps}
use Rattle.plan_lives.specs.Steps.{first_long_lem, gaps_to}
use Rattle.plan_lives.proofs.Follow.{Follows, follow_skip, follow_change, follow_end, follow_last, first_or}
use Rattle.plan_lives.proofs.lives.late_to.Goals as goal
use Rattle.plan_lives.proofs.lives.late_to.Goals.{In-Some}

-- ---- what is known

-- the opening at hand: whether it is a change, and where it lies
record Turn (c : In-Some) : Type 0 where
  inside : length c.loop-change.yielded < c.args.job.now.job.opening_count
  marked : get_or (take c.args.job.now.job.opening_count c.args.changes.now) (length c.loop-change.yielded) false ≡ c.in-Some.change.now
  range : Position c.in-Some.next.now
  is : c.in-Some.next.now ≡ get_or (positions (job_of c.args.job.now.job)) (length c.loop-change.yielded) (pos 0)

turn : (c : In-Some) → Turn c
turn c =
    let l = c.loop-change in
    let a = c.args in
    let j = a.job.now.job in
    let i = length l.yielded in
    let ks = take j.opening_count a.changes.now in
    let placed = c.requires.0 in
    let z = zip_turn ks a.places.now.at l.yielded c.into_iter-change-iterator.result l.change-iterator c.next.new.self _ (search rules) (search rules) l.yielded_by (c.in-Some.change, c.in-Some.next) c.in-Some.is c.next.ensures.steps in
    let t : i < j.opening_count = omega (arith, z.0, length-take-le j.opening_count a.changes.now (omega (arith, j.few_openings))) in
    let inside : i < length (job_of j).openings = rw (opening_count_lem2 j) t in
    record {
      inside = t;
      marked = sym (z.2 false);
      range = subst Position (sym (z.3 (pos 0))) (placed.ranges i inside);
      is = z.3 (pos 0) ∙ place_is a.places.now placed i inside;
    }

-- ---- the needs

pub gap-requires : goal.gap-requires
gap-requires c =
    let t = turn (goal.at.gap-requires c).In-Some in
    (c.requires.1.life_high, c.loop-change.invariant.0, rw (position_bits c.in-Some.next.now t.range) t.range)

pub loop-change-preserved-then-change : goal.loop-change-preserved-then-change
loop-change-preserved-then-change c =
    let a = c.args in
    let l = c.loop-change in
    let t = turn (goal.at.loop-change-preserved-then-change c).In-Some in
    let n = a.job.now.job.opening_count in
    let job = job_of a.job.now.job in
    let life = pos a.part.now.life in
    let prev = to_z w32 l.prev-bits in
    let to = to_z w32 (of_z w32 a.to) in
    let cs = take n a.changes.now in
    let first = to_z w32 (of_z w32 c.last_change-prev.result) in
    let next = to_z w32 (of_z w32 c.in-Some.next.now) in
    let bits : next ≡ c.in-Some.next.now = position_bits c.in-Some.next.now t.range in
    let more : length l.yielded + 1 ≡ length (l.yielded ++ ((c.in-Some.change, c.in-Some.next) ∷ [])) = sym (length-append l.yielded _) in (
      rw bits (begins_later a.part.now.life c.in-Some.next.now c.requires.1.life_high t.range),
      subst (λ (i : ℕ). Follows job to life cs first i next (model_gaps c.or-late.result)) more
          (follow_change job to life cs first (length l.yielded) prev (model_gaps l.late) l.invariant.1 next (model_gaps c.or-late.result)
          (rw (position_count a.job.now.job) t.inside) (t.marked ∙ c.if-change.true) (bits ∙ t.is)
          (ap model_gaps c.or-late.ensures ∙ first_or l.late c.gap.result ∙ ap (first_long_lem (model_gaps l.late)) c.gap.ensures)),
    )

pub loop-change-preserved : goal.loop-change-preserved
loop-change-preserved c =
    let a = c.args in
    let l = c.loop-change in
    let t = turn (goal.at.loop-change-preserved c).In-Some in
    let more : length l.yielded + 1 ≡ length (l.yielded ++ ((c.in-Some.change, c.in-Some.next) ∷ [])) = sym (length-append l.yielded _) in (
      l.invariant.0,
      subst (λ (i : ℕ). Follows (job_of a.job.now.job) (to_z w32 (of_z w32 a.to)) (pos a.part.now.life) (take a.job.now.job.opening_count a.changes.now) (to_z w32 (of_z w32 c.last_change-prev.result)) i (to_z w32 l.prev-bits) (model_gaps l.late)) more
          (follow_skip (job_of a.job.now.job) (to_z w32 (of_z w32 a.to)) (pos a.part.now.life) (take a.job.now.job.opening_count a.changes.now) (to_z w32 (of_z w32 c.last_change-prev.result)) (length l.yielded) (to_z w32 l.prev-bits) (model_gaps l.late) l.invariant.1 (t.marked ∙ c.if-change.false)),
    )

pub returns : goal.returns
returns c = let a = c.args in
    let l = c.loop-change in
    let j = a.job.now.job in
    let job = job_of j in
    let life = pos a.part.now.life in
    let to = to_z w32 (of_z w32 a.to) in
    let prev = to_z w32 l.prev-bits in
    let late = model_gaps l.late in
    let cs = take j.opening_count a.changes.now in
    let first = to_z w32 (of_z w32 c.last_change-prev.result) in
    let e = zip_end cs a.places.now.at l.yielded c.into_iter-change-iterator.result l.change-iterator c.next.new.self _ (search rules) (search rules) l.yielded_by c.in-None.is c.next.ensures.steps in
    let all : length (positions job) ≤ length l.yielded = omega (arith, e, position_count j, j.few_openings, a.places.now.long, length-take-le j.opening_count a.changes.now (omega (arith, j.few_openings))) in
    let begin = first_bits c.last_change-prev.ensures c.requires.1.life_high (omega (arith, c.requires.1.life_high, c.requires.1.left_high)) ∙ c.last_change-prev.ensures in (
      ap model_gaps c.or.ensures
          ∙ first_or l.late c.gap-2.result
          ∙ ap (first_long_lem late) c.gap-2.ensures
          ∙ follow_end job to life cs first (length l.yielded) prev late l.invariant.1 all
          ∙ ap (λ (f : ℤ). gaps_to job to life f (select (positions job) cs)) begin
          ∙ ap (λ (e : ℤ). gaps_to job e life (pos a.part.now.left -ℤ pos a.part.now.life) (select (positions job) cs)) (position_bits a.to c.requires.2),
      follow_last job to life cs first (length l.yielded) prev late l.invariant.1 all
          ∙ ap (λ (f : ℤ). last_of f (select (positions job) cs)) begin,
      l.invariant.0,
    )
