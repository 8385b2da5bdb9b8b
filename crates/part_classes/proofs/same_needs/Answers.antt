-- `same_needs`: the two lists of needs are equal.
use Rattle.std.proofs.Common.{◌≡◌, ◌∙◌, ap, ap₂, sym, length, List, Bool}
use Rattle.std.proofs.lemmas.Bool.Decides.{same_from_decides}
use Rattle.std.proofs.lemmas.Slice.Eq.{slice_eq-Decides}
use Rattle.std.specs.Bool.{Decides}
use Rattle.std.specs.Cmp.{booleans_Decides}
use Rattle.std.specs.Cmp.Lexicographic.{pointwise}
use mathlib.Core.Bool.{beq}
use Rattle.held_places.specs.Arrays.{needs_at}
use Rattle.part_classes.proofs.Groups.{same_decided}
use Rattle.part_classes.proofs.same_needs.Goals as goal
use Rattle.part_classes.proofs.same_needs.Goals.{After-eq}

equal : (c : After-eq) → let n = c.args.needs.now in Decides c.eq.result (needs_at n.holding n.marks.now c.args.p ≡ needs_at n.holding n.marks.now c.args.q)
equal c = slice_eq-Decides booleans_Decides _ _ _ (c.eq.ensures ∙ ap₂ (λ (x y : List Bool). pointwise beq x y) c.of.ensures.row c.of-2.ensures.row)

pub returns-clause-same : goal.returns-clause-same
returns-clause-same c = let n = c.args.needs.now in
    same_from_decides _ _ (equal (goal.at.returns-clause-same c).After-eq)
    (same_decided n.marks.now c.args.p c.args.q n.holding (ap length (sym c.of.ensures.row) ∙ c.of.ensures.long) (ap length (sym c.of-2.ensures.row) ∙ c.of-2.ensures.long))

pub returns-clause-rows : goal.returns-clause-rows
returns-clause-rows c = (equal (goal.at.returns-clause-rows c).After-eq).0
