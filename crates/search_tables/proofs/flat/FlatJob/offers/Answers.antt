-- `offers` has the lane's life, and its first life less its life.
use Prim.Native.Nat.{ℕ, ◌≤◌}
use mathlib.Core.Path.{sym, ap, ap₂, subst, ◌∙◌}
use native.Mathlib.Omega.{arith}
use lib.IntN.{ℤ, pos, ◌-ℤ◌}
use lib.Signed.{mag}
use Rattle.base.proofs.Diff.{back}
use Rattle.model.specs.Limits.{last_position, longest_life}
use Rattle.search_tables.proofs.Filling.{lane_range}
use Rattle.search_tables.proofs.flat.FlatJob.offers.Goals as goal

pub offered-requires-clause-brief : goal.offered-requires-clause-brief
offered-requires-clause-brief c = let j = c.args.self.now in
    let life = lane_range j.lives.now longest_life j.arrays.lives.brief c.args.q in
    let left = lane_range j.lefts.now longest_life j.arrays.lives.begun c.args.q in
    (omega (arith, c.lane_value-life.ensures, life, left), omega (arith, c.lane_value-left.ensures, life, left))

pub offered-requires-clause-timed : goal.offered-requires-clause-timed
offered-requires-clause-timed c = let j = c.args.self.now in
    let r = j.arrays in
    record { few = r.few; near = r.near; late = subst (λ (e : ℤ). mag e ≤ last_position) (sym (back j.end (omega (arith, r.late)))) r.late }

pub returns-clause-lived : goal.returns-clause-lived
returns-clause-lived c = let o = c.offered.ensures.lived in
    record { lives = o.0 ∙ ap pos c.lane_value-life.ensures; begins = o.1 ∙ ap₂ (λ (x y : ℕ). pos x -ℤ pos y) c.lane_value-left.ensures c.lane_value-life.ensures }
