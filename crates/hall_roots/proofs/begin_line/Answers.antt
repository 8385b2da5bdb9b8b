-- `begin_line` writes the line's first level: the first row and marks, the first top number and the tables' first row.
use Prim.Native.Nat.{ℕ, ◌+◌, ◌<◌}
use mathlib.Core.Path.{◌≡◌, refl, sym, ap, ◌∙◌}
use mathlib.Core.List.{List, []}
use native.Mathlib.Omega.{arith}
use borrow.Author.Rules.{rules}
use lib.ListN.{set}
use lib.Seq.{get_or-set_same}
use Rattle.branch.specs.declared.Bound.TheVariants.{Missing, Sum}
use Rattle.branch.specs.Lower.{add}
use Rattle.branch.proofs.Bounds.{no_sum_lem}
use Rattle.lane_rows.specs.Tables.{Tables}
use Rattle.lane_rows.proofs.Lanes.{first_most}
use Rattle.held_rows.specs.Held.{HeldSheet, plain, held, held_bound, Classed}
use Rattle.held_lanes.specs.Tables.{HeldTables}
use Rattle.search_state.specs.State.{no_cost}
use Rattle.held_nodes.proofs.Root.{begun_bound, begun_due, begun_given}
use Rattle.hall_lines.specs.declared.Level.{Level}
use Rattle.hall_lines.specs.Levels.{no_level, level_at}
use Rattle.hall_lines.proofs.Levels.{at_plain}
use Rattle.hall_roots.proofs.begin_line.Goals as goal
use Rattle.hall_roots.proofs.begin_line.Goals.{After-first_sums}

abbrev rows : After-first_sums → List ℕ
rows c = c.base_row.new.w

abbrev marks : After-first_sums → List ℕ
marks c = c.first_marks.new.v

pub first_sums-requires : goal.first_sums-requires
first_sums-requires c = (c.requires.1.narrow, first_most (plain c.requires.0) c.args.tables.now.t c.requires.1)

module _ (c : After-first_sums) (sheet : HeldSheet) (ta : Tables (plain sheet) c.args.tables.now.t) (he : HeldTables sheet c.args.tables.now.u) (fit : Classed sheet) where
  floor_is : add (Sum c.from-g.result) c.first_sums.result ≡ held_bound sheet []
  floor_is = begun_bound sheet c.args.tables.now.t c.args.tables.now.u (rows c) ta he fit c.base_row.ensures c.from-g.result c.from-g.ensures c.first_sums.result c.first_sums.ensures

  fits : (x : ℕ) → c.first_sums.result ≡ Sum x → c.from-g.result + x < no_cost
  fits x e = (begun_due sheet c.args.tables.now.t c.args.tables.now.u (rows c) ta he fit c.base_row.ensures c.from-g.result c.from-g.ensures c.first_sums.result c.first_sums.ensures 0).fits x e

pub returns-in_default : goal.returns-in_default
returns-in_default c =
    let d = (goal.at.returns-in_default c).After-first_sums in
    λ sheet ta he fit. record { floor = ap (add (Sum c.from-g.result)) (sym c.in_default.is) ∙ floor_is d sheet ta he fit; given = λ f e. absurd (no_sum_lem Missing f refl e) }

pub overflow_add-floor : goal.overflow_add-floor
overflow_add-floor c = omega (arith, fits (goal.at.overflow_add-floor c).After-first_sums c.requires.0 c.requires.1 c.requires.2 c.requires.3 c.in-Sum.x c.in-Sum.is)

pub returns : goal.returns
returns c =
    let d = (goal.at.returns c).After-first_sums in
    let x = c.in-Sum.x in
    let a = c.args in
    let l : Level = record { rows = 1; sums = x; term = c.from-g.result; mask = 0 } in
    let put : level_at (set a.own.now.n 0 l) 0 ≡ l = get_or-set_same a.own.now.n 0 l no_level (search rules) in
    λ sheet ta he fit. record {
      floor = ap (add (Sum c.from-g.result)) (sym c.in-Sum.is) ∙ floor_is d sheet ta he fit;
      given = λ f e.
          at_plain
          (begun_given sheet a.tables.now.t a.tables.now.u (rows d) ta he fit c.base_row.ensures c.from-g.result c.from-g.ensures c.first_sums.result c.first_sums.ensures
          a.own.now.v (marks d) (held sheet) x (search rules) c.first_marks.ensures refl c.in-Sum.is)
          refl _ (held sheet) _ _ _ (ap (λ (k : Level). k.rows) put) refl (ap (λ (k : Level). k.mask) put) (ap (λ (k : Level). k.sums) put) (ap (λ (k : Level). k.term) put);
    }
