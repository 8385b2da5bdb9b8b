-- `past::past_job`: the first n of the first openings and prices are the first n.
use Rattle.std.proofs.Common.{refl, take}
use Rattle.log_text.proofs.Counts.{openings_to, parts_to}
use Rattle.log_text.proofs.past.past_job.Goals as goal

pub returns : goal.returns
returns c = let j = c.args.job.now in
    let os = openings_to c.args.n j.opening_count j.openings c.requires in
    let ps = parts_to c.args.n j.opening_count (take j.part_count j.parts) c.requires in
    (λ i. record { horizon = j.horizon; idles = take j.idle_count j.idles; openings = os i; parts = ps i }, refl, refl)
