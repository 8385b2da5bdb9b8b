-- `tested` drops a node whose term is Missing, and one that smaller part sums drop; else it hands over its fees and term.
use Prim.Native.Nat.{◌+◌, ◌<◌}
use mathlib.Core.Path.{◌≡◌, refl, sym, ap, ◌∙◌}
use native.Mathlib.Omega.{arith}
use Rattle.branch.specs.declared.Bound.{Bound}
use Rattle.branch.specs.declared.Bound.TheVariants.{Missing, Sum}
use Rattle.branch.proofs.Bounds.{sum_inj}
use Rattle.lane_rows.specs.Layout.{inf}
use Rattle.lane_rows.proofs.Lanes.{value_sum, value_missing}
use Rattle.search_state.specs.State.{instead, open_s, due_s}
use Rattle.search_state.proofs.Dues.{due_missing, due_there}
use Rattle.search_state.proofs.Search.tested.Goals as goal
use Rattle.search_state.proofs.Search.tested.Goals.{In-Sum}

-- the term is there
there : (c : In-Sum) → (c.args.h ≡ c.in-Sum.g) × (c.in-Sum.g < inf)
there c = value_sum c.args.h c.in-Sum.g (sym c.value.ensures ∙ c.in-Sum.is)

pub returns-in_default : goal.returns-in_default
returns-in_default c = let a = c.args in
    due_missing a.limit a.spent a.h a.x a.self (value_missing a.h (sym c.value.ensures ∙ c.in_default.is))

pub overflow_add-spent : goal.overflow_add-spent
overflow_add-spent c = omega (arith, there (goal.at.overflow_add-spent c).In-Sum, c.requires)

pub open-requires : goal.open-requires
open-requires c = λ y f.
    let z = sum_inj (Sum c.args.x) c.args.x y refl f in
    omega (arith, z, there (goal.at.open-requires c).In-Sum, c.requires)

-- what was tested
opened : (g : In-Sum) (r : Bound) → open_s g.args.limit (g.args.spent + g.in-Sum.g) (Sum g.args.x) g.args.self ≡ r
    → instead (g.args.spent + g.in-Sum.g) r ≡ (let a = g.args in due_s a.limit a.spent a.h a.x a.self)
opened g r f =
    let a = g.args in
    let e = there g in
    sym (due_there a.limit a.spent a.h a.x a.self (omega (arith, e))
    ∙ (λ i. instead (a.spent + e.0 i) (open_s a.limit (a.spent + e.0 i) (Sum a.x) a.self))
    ∙ ap (instead (a.spent + g.in-Sum.g)) f)

pub returns-in_default-open : goal.returns-in_default-open
unfolding instead
returns-in_default-open c = opened (goal.at.returns-in_default-open c).In-Sum Missing (sym c.«open».ensures ∙ c.in_default-open.is)

pub overflow_add-result : goal.overflow_add-result
overflow_add-result c = omega (arith, there (goal.at.overflow_add-result c).In-Sum, c.requires)

pub returns : goal.returns
unfolding instead
returns c = opened (goal.at.returns c).In-Sum (Sum c.in-Sum-open.field-0) (sym c.«open».ensures ∙ c.in-Sum-open.is)
