-- `holding_of`: the marks are the parts in the row of one of all, and the places are theirs.
use mathlib.Core.Path.{sym, ap, subst, ◌∙◌}
use mathlib.Core.Bool.{Bool, false}
use mathlib.Core.List.{List}
use Rattle.model.specs.Model.{holding}
use Rattle.coming_out.specs.Rows.{Row}
use Rattle.holding_parts.specs.Places.{places_from}
use Rattle.coming_out.proofs.Rounds.{union-holding}
use Rattle.holding_parts.proofs.Held.{is_holding}
use Rattle.holding_parts.proofs.holding_of.Goals as goal

pub returns : goal.returns
returns c = (
  c.places_of.ensures.2,
  λ job held.
      let e = c.places_of.ensures in
      let r = c.places_of.result in
      is_holding job r e.2
      (subst (Row false (holding job)) (sym e.0) (subst (λ (xs : List Bool). Row false xs c.union-marks.result) (union-holding job c.args.m c.args.holders.now held c.requires) c.union-marks.ensures))
      (e.1 ∙ ap (places_from 0) (sym e.0)),
)
