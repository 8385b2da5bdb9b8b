-- `lefts_of`: the first q entries are what is left of the first life of each part before q.
use Prim.Native.Nat.{◌<◌}
use mathlib.Core.List.{map}
use mathlib.Core.Path.{refl, sym, ap, ◌∙◌}
use native.Mathlib.Omega.{arith}
use lib.ListN.{length, take, length-map, length-set}
use Rattle.jobs.specs.declared.Part.{Part}
use Rattle.jobs.specs.Views.{job_of}
use Rattle.jobs.proofs.Jobs.{part_count, parts_taken, taken_at}
use Rattle.part_records.specs.Records.{record_at}
use Rattle.coming_out.proofs.Rows.{front_more}
use Rattle.job_numbers.specs.Laid.{left_of}
use Rattle.job_numbers.proofs.Records.{taken_is, number_at}
use Rattle.job_numbers.proofs.lefts_of.Goals as goal

pub loop-q-init : goal.loop-q-init
loop-q-init c = (refl, λ k h. absurd (omega (arith, h)))

pub loop-q-preserved : goal.loop-q-preserved
loop-q-preserved c = let l = c.loop-q in
    let j = c.args.job.now in
    let inside : l.q < length (take j.part_count j.parts) = omega (arith, c.loop-q-test.true) in (
      length-set l.lefts l.q _ ∙ l.invariant.0,
      front_more 0 (λ k. (record_at j.parts k).left) l.q l.lefts _ (omega (arith, inside, parts_taken j, j.few_parts, l.invariant.0)) (c.left_of.ensures ∙ ap (λ (p : Part). p.left) (taken_at j l.q inside)) l.invariant.1,
    )

pub returns : goal.returns
returns c = let j = c.args.job.now in
    let l = c.loop-q in
    taken_is j.part_count l.lefts (map left_of (job_of j).parts) (omega (arith, l.invariant.0, j.few_parts)) (length-map (job_of j).parts left_of ∙ part_count j)
    (λ q h. l.invariant.1 q (omega (arith, h, c.loop-q-test.false, parts_taken j)) ∙ sym (number_at left_of j q h))
