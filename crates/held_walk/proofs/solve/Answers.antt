-- `solve` is the limited walk from the first node, and its bound is the floor: the first row and marks, the first top number, the tables' first row, and `walk`.
use Prim.Native.Nat.{ℕ}
use mathlib.Core.Path.{◌≡◌, refl, sym, ap, subst, ◌∙◌}
use mathlib.Core.List.{[]}
use native.Mathlib.Omega.{arith}
use lib.ListN.{length}
use Rattle.branch.specs.Search.{onward}
use Rattle.branch.specs.Lower.{add}
use Rattle.branch.specs.declared.Bound.TheVariants.{Sum}
use Rattle.model.specs.Decisions.{concat}
use Rattle.lane_rows.specs.Tables.{Tables}
use Rattle.lane_rows.proofs.Lanes.{first_most}
use Rattle.held_rows.specs.Held.{HeldSheet, plain, held, held_bound, Classed}
use Rattle.held_lanes.specs.Tables.{HeldTables}
use Rattle.search_state.specs.declared.Search.{Search}
use Rattle.search_state.specs.State.{open_s}
use Rattle.held_nodes.specs.State.{best_name, view, tree_at, At, HeldSolves}
use Rattle.search_state.proofs.Trees.{DueAt, Opened, closed, opened}
use Rattle.held_nodes.proofs.Root.{root_n, begun_due, begun_bound, begun_given, fresh, root_ends}
use Rattle.held_walk.proofs.solve.Goals as goal
use Rattle.held_walk.proofs.solve.Goals.{After-first_sums-sums}

pub first_sums-sums-requires : goal.first_sums-sums-requires
first_sums-sums-requires c = let p = c.requires.0 in (p.1.narrow, first_most (plain p.0) c.args.t.now p.1)

-- the first node's part sums and its term, of a sheet whose tables are given
module _ (c : After-first_sums-sums) (sheet : HeldSheet) (ta : Tables (plain sheet) c.args.t.now) (he : HeldTables sheet c.args.u.now) (fit : Classed sheet) where
  owes : (h : ℕ) → DueAt (tree_at sheet (root_n h) []) c.first_sums-sums.result c.from-due.result
  owes = begun_due sheet c.args.t.now c.args.u.now c.base_row.new.w ta he fit c.base_row.ensures c.from-due.result c.from-due.ensures c.first_sums-sums.result c.first_sums-sums.ensures

  floor_is : add (Sum c.from-due.result) c.first_sums-sums.result ≡ held_bound sheet []
  floor_is = begun_bound sheet c.args.t.now c.args.u.now c.base_row.new.w ta he fit c.base_row.ensures c.from-due.result c.from-due.ensures c.first_sums-sums.result c.first_sums-sums.ensures

  -- the walk is given it, with the part sums x
  child : (h x : ℕ) → h ≡ held sheet → c.first_sums-sums.result ≡ Sum x → At sheet [] c.args.t.now c.args.u.now c.base_row.new.w c.first_marks.new.v (root_n h) x c.from-due.result
  child h x n e =
      begun_given sheet c.args.t.now c.args.u.now c.base_row.new.w ta he fit c.base_row.ensures c.from-due.result c.from-due.ensures c.first_sums-sums.result c.first_sums-sums.ensures
      c.args.v.now c.first_marks.new.v h x (omega arith) c.first_marks.ensures n e

pub plus-floor-requires : goal.plus-floor-requires
plus-floor-requires c = let p = c.requires.0 in λ x f. omega (arith, (owes (goal.at.plus-floor-requires c).After-first_sums-sums p.0 p.1 p.2 p.3 0).fits x f)

pub open-requires : goal.open-requires
open-requires c = let p = c.requires.0 in λ x f. omega (arith, (owes (goal.at.open-requires c).After-first_sums-sums p.0 p.1 p.2 p.3 0).fits x f)

pub returns-in_default : goal.returns-in_default
returns-in_default c = λ sheet ta he fit.
    let d = (goal.at.returns-in_default c).After-first_sums-sums in
    let v = c.first_marks.new.v in
    let limit = c.args.limit in
    subst (HeldSolves sheet limit v) (sym c.solved.ensures)
    (root_ends limit sheet v v (held sheet) c.reached.result c.plus-floor.result refl (c.plus-floor.ensures ∙ floor_is d sheet ta he fit)
    (ap (view limit sheet v) c.reached.ensures ∙ closed (owes d sheet ta he fit (held sheet)) (concat []) limit (best_name (held sheet) (length sheet.positions) v) fresh (sym c.«open».ensures ∙ c.in_default.is)))

-- the first node is walked on, with the part sums x
root_opened : (c : After-first_sums-sums) (sheet : HeldSheet) (ta : Tables (plain sheet) c.args.t.now) (he : HeldTables sheet c.args.u.now) (fit : Classed sheet) (h x : ℕ)
    → let v = c.first_marks.new.v in
    open_s c.args.limit c.from-due.result c.first_sums-sums.result fresh ≡ Sum x → Opened (owes c sheet ta he fit h) (concat []) c.args.limit (best_name (held sheet) (length sheet.positions) v) fresh x
root_opened c sheet ta he fit h x e = opened (owes c sheet ta he fit h) (concat []) c.args.limit (best_name (held sheet) (length sheet.positions) c.first_marks.new.v) fresh x e

pub walk-requires : goal.walk-requires
walk-requires c = let p = c.requires.0 in
    let d = (goal.at.walk-requires c).After-first_sums-sums in
    let h = c.number.result in
    let o = root_opened d p.0 p.1 p.2 p.3 h c.in-Sum.x (sym c.«open».ensures ∙ c.in-Sum.is) in
    ((p.0, ([], child d p.0 p.1 p.2 p.3 h c.in-Sum.x (c.number.ensures.value ∙ p.2.holds) o.sums)), c.requires.1)

pub returns : goal.returns
returns c = λ sheet ta he fit.
    let d = (goal.at.returns c).After-first_sums-sums in
    let limit = c.args.limit in
    let h = c.number.result in
    let n = c.number.ensures.value ∙ he.holds in
    let v = c.first_marks.new.v in
    let o = root_opened d sheet ta he fit h c.in-Sum.x (sym c.«open».ensures ∙ c.in-Sum.is) in
    subst (HeldSolves sheet limit c.walk.new.v) (sym c.solved-2.ensures)
    (root_ends limit sheet v c.walk.new.v h c.walk.result c.plus-floor.result n (c.plus-floor.ensures ∙ floor_is d sheet ta he fit)
    ((c.walk.ensures sheet [] (child d sheet ta he fit h c.in-Sum.x n o.sums)).search
    ∙ ap (λ (q : Search). onward limit (tree_at sheet (root_n h) []) (concat []) (view limit sheet v q)) c.counted.ensures
    ∙ o.on))
