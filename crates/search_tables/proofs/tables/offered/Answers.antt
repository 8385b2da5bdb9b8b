-- `offered` has the part's life, and its first life less its life.
use native.Mathlib.Omega.{arith}
use lib.IntN.{pos, ◌-ℤ◌}
use mir.Syntax.{w32}
use mir.Val.{to_z, of_z}
use mathlib.Core.Path.{◌≡◌, ◌∙◌}
use mir.Facts.{to_z_pos}
use Rattle.base.proofs.Diff.{back, small_back}
use Rattle.search_tables.proofs.Filling.{marks_small}
use Rattle.search_tables.proofs.tables.offered.Goals as goal
use Rattle.search_tables.proofs.tables.offered.Goals.{After-last_change}

-- the life and the last change, as signed numbers
lived : (c : After-last_change) → let a = c.args in (to_z w32 a.life ≡ pos a.life) × (to_z w32 (of_z w32 c.last_change.result) ≡ pos a.left -ℤ pos a.life)
lived c = let a = c.args in (to_z_pos w32 {n = a.life} (omega (arith, c.requires.brief)), back c.last_change.result c.last_change.type_inv ∙ c.last_change.ensures)

pub invariant_of-result : goal.invariant_of-result
invariant_of-result c = let a = c.args in
    let t = c.requires.timed in
    record {
      few = t.few;
      small = marks_small a.life a.left c.requires.brief.0 c.requires.brief.1 t (lived (goal.at.invariant_of-result c).After-last_change).1;
      priced = c.requires.rows.0;
      cheap = λ i. omega (arith, c.type_inv.prices i);
      flagged = c.requires.rows.1;
      late = small_back a.end (omega (arith, t.late));
    }

pub returns-clause-lived : goal.returns-clause-lived
returns-clause-lived c = lived (goal.at.returns-clause-lived c).After-last_change
