-- `line_plan` is the plan of the line's part of the incumbent's name.
use Prim.Native.Nat.{ℕ}
use mathlib.Core.Path.{◌≡◌, sym, ap, ap₂, ◌∙◌}
use mathlib.Core.Bool.{Bool}
use mathlib.Core.List.{List}
use lib.ListN.{length, take}
use Rattle.model.specs.LowerBound.{inner, stops_at, plan_at}
use Rattle.jobs.specs.Views.{job_of, model_plan}
use Rattle.jobs.proofs.Jobs.{opening_count_lem2, part_count}
use Rattle.held_nodes.specs.State.{best_name}
use Rattle.held_places.proofs.Held.{opened, holding}
use Rattle.held_tables.proofs.Sheets.{arrays_of, lanes_are}
use Rattle.held_search.proofs.Answered.{plan_read}
use Rattle.hall_search.proofs.plans.line_plan.Goals as goal

pub returns : goal.returns
returns c full =
    let n = c.held-numbers.result in
    let j = n.job in
    let own = c.args.job.now.job in
    let job = job_of own in
    let ho = c.held-numbers.ensures in
    let name = take c.name_of-size.result c.name_of-size.new.name in
    let p = c.plan_of in
    let h = holding job j.end j.positions.now j.fees.now j.lives.now j.lefts.now j.prices.now n.needs.now n.removals.now ho in
    let k = opened job j.end j.positions.now j.fees.now j.lives.now j.lefts.now j.prices.now n.needs.now n.removals.now ho in
    let is : name ≡ best_name (inner job) (length job.openings) c.args.v.now c.args.mask = c.name_of-size.ensures.name ∙ ap₂ (λ (x y : ℕ). best_name x y c.args.v.now c.args.mask) h k in
    ap₂ (λ (x y : ℕ). model_plan x y p.result) (sym (opening_count_lem2 own)) (sym (part_count own))
    ∙ plan_read job j.end j.positions.now j.fees.now j.lives.now j.lefts.now j.prices.now n.needs.now n.removals.now (lanes_are (arrays_of n)) ho name p.result.stops p.ensures.stops p.result.changes p.ensures.changes
    (ap (λ (s : List Bool). length (stops_at job s)) is ∙ full)
    ∙ ap (plan_at job) is
