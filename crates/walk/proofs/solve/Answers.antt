-- `solve` is the limited walk from the first node, and its bound is the floor: the base row, the tables' first row and first term, and `walk`.
use Prim.Native.Nat.{ℕ}
use mathlib.Core.Path.{sym, ap, subst, ◌∙◌}
use mathlib.Core.List.{[]}
use native.Mathlib.Omega.{arith}
use native.Mathlib.Nat.{sub-zero}
use lib.ListN.{length}
use Rattle.branch.specs.Label.{open_from}
use Rattle.search_state.specs.declared.Search.{Search}
use Rattle.lane_rows.specs.Sheet.{sheet_bound}
use Rattle.lane_rows.proofs.Lanes.{first_most}
use Rattle.search_state.specs.State.{bits, view}
use Rattle.walk.specs.State.{Solves}
use Rattle.walk.proofs.Root.{root_fits, root_ends, root_closed, root_child, root_walked, Walked}
use Rattle.walk.proofs.solve.Goals as goal

pub first_sums-sums-requires : goal.first_sums-sums-requires
first_sums-sums-requires c = let ta = c.requires.0.1 in
    (ta.narrow, first_most c.requires.0.0 c.args.t.now ta)

pub plus-floor-requires : goal.plus-floor-requires
plus-floor-requires c = λ x f. omega (arith, root_fits c.requires.0.0 c.args.t.now c.base_row.new.w c.requires.0.1 c.requires.0.2 c.base_row.ensures c.term-due.result c.term-due.ensures c.first_sums-sums.result c.first_sums-sums.ensures x f)

pub open-requires : goal.open-requires
open-requires c = λ x f. omega (arith, root_fits c.requires.0.0 c.args.t.now c.base_row.new.w c.requires.0.1 c.requires.0.2 c.base_row.ensures c.term-due.result c.term-due.ensures c.first_sums-sums.result c.first_sums-sums.ensures x f)

pub returns-in_default : goal.returns-in_default
returns-in_default c = λ sheet ta te.
    let a = c.args in
    let b = c.first_sums-sums in
    let d = c.term-due in
    let r = c.base_row in
    subst (Solves sheet a.limit) (sym c.solved.ensures)
    (root_ends sheet a.t.now r.new.w ta te r.ensures d.result d.ensures b.result b.ensures a.limit c.plus-floor.result c.reached.result c.plus-floor.ensures
    (subst (Walked sheet a.t.now r.new.w ta te r.ensures d.result d.ensures b.result b.ensures a.limit) (sym c.reached.ensures)
    (root_closed sheet a.t.now r.new.w ta te r.ensures d.result d.ensures b.result b.ensures a.limit (sym c.«open».ensures ∙ c.in_default.is))))

pub walk-requires : goal.walk-requires
walk-requires c = let p = c.requires in
    let b = c.first_sums-sums in
    ((p.0.0, root_child p.0.0 c.args.t.now c.base_row.new.w p.0.1 p.0.2 c.base_row.ensures c.term-due.result c.term-due.ensures b.result b.ensures c.args.limit c.in-Sum.x (sym c.«open».ensures ∙ c.in-Sum.is)), p.1)

pub returns : goal.returns
unfolding bits
returns c = λ sheet ta te.
    let a = c.args in
    let n = length sheet.positions in
    let b = c.first_sums-sums in
    let d = c.term-due in
    let r = c.base_row in
    let o = sym c.«open».ensures ∙ c.in-Sum.is in
    subst (Solves sheet a.limit) (sym c.solved-2.ensures)
    (root_ends sheet a.t.now r.new.w ta te r.ensures d.result d.ensures b.result b.ensures a.limit c.plus-floor.result c.walk.result c.plus-floor.ensures
    (root_walked sheet a.t.now r.new.w ta te r.ensures d.result d.ensures b.result b.ensures a.limit c.in-Sum.x o c.walk.result
    (c.walk.ensures.walked sheet (root_child sheet a.t.now r.new.w ta te r.ensures d.result d.ensures b.result b.ensures a.limit c.in-Sum.x o)
    ∙ ap (λ (k : ℕ). open_from (sheet_bound sheet) a.limit k [] (view a.limit n c.counted.result)) (sub-zero n)
    ∙ ap (λ (k : Search). open_from (sheet_bound sheet) a.limit n [] (view a.limit n k)) c.counted.ensures)))
