-- `prices_of`: the prices of the first q parts are laid out, with what is added to them, and all else is 0.
use Prim.Native.Nat.{ℕ, ◌+◌, ◌≤◌}
use mathlib.Core.Path.{◌≡◌, sym, ap₂, subst, ◌∙◌}
use native.Mathlib.Omega.{arith}
use lib.ListN.{length, get_or, take}
use Rattle.model.specs.Limits.{dearest}
use Rattle.model.specs.Model as model
use Rattle.model.specs.Model.{table}
use Rattle.jobs.specs.Views.{job_of}
use Rattle.jobs.proofs.Jobs.{opening_count_lem2, part_at_lem, valid_parts, valid_part}
use Rattle.job_numbers.specs.Laid.{Laid, prices_with}
use Rattle.job_numbers.proofs.Records.{laid_none, laid_more, laid_same, record_row, record_row_lem, record_price}
use Rattle.job_numbers.proofs.Counts.{price_range}
use Rattle.job_numbers.proofs.prices_of.Goals as goal

pub loop-q-init : goal.loop-q-init
loop-q-init c = laid_none (record_row c.args.job.now.job.opening_count c.args.job.now.job.parts c.args.added.now)

pub put_prices-requires : goal.put_prices-requires
put_prices-requires c = let j = c.args.job.now.job in
    let q = c.loop-q.q in
    let part = valid_part j c.args.job.now.valid q c.loop-q-test.true in (
      rw c.part_at-part.ensures (omega (arith, part.priced, c.loop-q.invariant.size, j.few_openings, j.few_parts)),
      λ i. rw c.part_at-part.ensures (subst (λ (p : model.Part). get_or p.prices i 0 ≤ dearest) (part_at_lem j q c.loop-q-test.true) (price_range j.opening_count (job_of j).parts (valid_parts j c.args.job.now.valid) q i)),
      c.requires q (omega (arith, j.few_parts)),
    )

pub loop-q-preserved : goal.loop-q-preserved
loop-q-preserved c = let l = c.loop-q in
    let j = c.args.job.now.job in
    let n = j.opening_count in
    let part = valid_part j c.args.job.now.valid l.q c.loop-q-test.true in
    let ns = take n c.part_at-part.result.prices in
    let counted : length ns ≡ n = rw c.part_at-part.ensures part.priced in
    laid_more (record_row n j.parts c.args.added.now) l.q (length ns) (omega (arith, counted, j.few_openings)) (record_row_lem n j.parts c.args.added.now l.q ∙ sym counted) l.flat _ l.invariant
    (λ i. get_or ns i 0 + get_or c.args.added.now l.q 0) (λ i h. record_price n j.parts c.args.added.now l.q c.part_at-part.result c.part_at-part.ensures i (omega (arith, h, counted)))
    c.put_prices.ensures

pub returns : goal.returns
returns c = let j = c.args.job.now.job in
    let l = c.loop-q in
    let same : l.q ≡ j.part_count = omega arith in
    laid_same (record_row j.opening_count j.parts c.args.added.now) (prices_with (job_of j) c.args.added.now) j.part_count l.flat
    (λ q h. ap₂ (λ (p : model.Part) (k : ℕ). table (λ i. get_or p.prices i 0 + get_or c.args.added.now q 0) k) (sym (part_at_lem j q h)) (sym (opening_count_lem2 j)))
    (subst (λ (q : ℕ). Laid q (record_row j.opening_count j.parts c.args.added.now) l.flat) same l.invariant)
