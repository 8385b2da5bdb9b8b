-- `low_job`: the parts at the low ends, and all else as it is.
use Prim.Native.Nat.{ℕ}
use mathlib.Core.Path.{◌≡◌, refl, sym, ap, subst, ◌∙◌}
use mathlib.Core.List.{map}
use lib.ListN.{length}
use Rattle.jobs.specs.Views.{job_of}
use Rattle.jobs.proofs.Jobs.{opening_count_lem2}
use Rattle.part_lines.specs.Grammar.{meant_part, low_part_lem}
use Rattle.low_ends.specs.Lows.{lines_in, parts_for}
use Rattle.low_ends.proofs.low_job.Goals as goal
use Rattle.low_ends.proofs.low_job.Goals.{Start}

-- as many openings as the struct counts
counted : (s : Start) → length (job_of s.args.job.now).openings ≡ s.args.job.now.opening_count
counted s = opening_count_lem2 s.args.job.now

pub low_parts-low-requires : goal.low_parts-low-requires
low_parts-low-requires c = let j = c.args.job.now in
    (j.few_parts, j.few_openings, subst (λ (n : ℕ). map (meant_part n) (lines_in c.args.said.now j) ≡ (job_of j).parts) (counted (goal.at.low_parts-low-requires c).Start) c.requires)

pub returns : goal.returns
returns c = let p = c.low_parts-low in
    let j = c.args.job.now in
    let e = p.ensures ∙ ap (λ (n : ℕ). map (low_part_lem n) (lines_in c.args.said.now j)) (sym (counted (goal.at.returns c).Start)) in
    record { is = ap (parts_for j) e; idles = refl; openings = refl; parts = refl }
