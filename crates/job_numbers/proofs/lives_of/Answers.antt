-- `lives_of`: the first q entries are the life of each part before q.
use Prim.Native.Nat.{◌<◌}
use mathlib.Core.List.{map}
use mathlib.Core.Path.{refl, sym, ap, ◌∙◌}
use native.Mathlib.Omega.{arith}
use lib.ListN.{length, take, length-map, length-set}
use Rattle.jobs.specs.declared.Part.{Part}
use Rattle.jobs.specs.Views.{job_of}
use Rattle.jobs.proofs.Jobs.{part_count, parts_taken, taken_at}
use Rattle.part_records.specs.Records.{record_at}
use Rattle.coming_out.proofs.Rows.{front_more}
use Rattle.job_numbers.specs.Laid.{life_of_lem}
use Rattle.job_numbers.proofs.Records.{taken_is, number_at}
use Rattle.job_numbers.proofs.lives_of.Goals as goal

pub loop-q-init : goal.loop-q-init
loop-q-init c = (refl, λ k h. absurd (omega (arith, h)))

pub loop-q-preserved : goal.loop-q-preserved
loop-q-preserved c = let l = c.loop-q in
    let j = c.args.job.now in
    let inside : l.q < length (take j.part_count j.parts) = omega (arith, c.loop-q-test.true) in (
      length-set l.lives l.q _ ∙ l.invariant.0,
      front_more 0 (λ k. (record_at j.parts k).life) l.q l.lives _ (omega (arith, inside, parts_taken j, j.few_parts, l.invariant.0)) (c.life_of.ensures ∙ ap (λ (p : Part). p.life) (taken_at j l.q inside)) l.invariant.1,
    )

pub returns : goal.returns
returns c = let j = c.args.job.now in
    let l = c.loop-q in
    taken_is j.part_count l.lives (map life_of_lem (job_of j).parts) (omega (arith, l.invariant.0, j.few_parts)) (length-map (job_of j).parts life_of_lem ∙ part_count j)
    (λ q h. l.invariant.1 q (omega (arith, h, c.loop-q-test.false, parts_taken j)) ∙ sym (number_at life_of_lem j q h))
