-- `top_of` is the largest, as the library finds it.
use Rattle.std.proofs.Common.{◌≡◌, ◌+◌, ◌*◌, ◌≤◌, ◌∙◌, ℕ, ap, get_or, length, take, drop, ◌-◌, arith}
use Rattle.lane_rows.proofs.Rising.{row_inside}
use Rattle.held_lanes.specs.Places.{most_to, class_place, held_size}
use Rattle.held_lanes.proofs.Ranges.{window_at, window_length}
use Rattle.held_lanes.proofs.Most.{max_all, most_same}
use Rattle.std.proofs.lemmas.Iterator.{YieldsList-from_slice}
use Rattle.std.proofs.lemmas.Iterator.Consumers.{max_from_yields_List}
use Rattle.std.specs.Prelude.{Option}
use Rattle.std.specs.Option.{unwrap_or}
use Rattle.held_tables.proofs.terms.top_of.Goals as goal
use Rattle.held_tables.proofs.terms.top_of.Goals.{After-row_of}

-- the classes' terms stand among the terms
inside : (c : After-row_of) → c.row_of.result * 16 + c.args.j * 16 + c.args.n ≤ held_size
inside c = omega (arith, c.row_of.ensures.rows, c.requires, row_inside c.args.j c.args.j 65 (omega arith) (omega (arith, c.requires.0)))

pub slice_bounds-iter-end : goal.slice_bounds-iter-end
slice_bounds-iter-end c = omega (arith, inside (goal.at.slice_bounds-iter-end c).After-row_of)

pub returns : goal.returns
returns c = let a = c.args in
    let at = c.row_of.result * 16 + a.j * 16 in
    let h : at + a.n ≤ length a.u.now = omega (arith, inside (goal.at.returns c).After-row_of) in
    let xs = take (at + a.n - at) (drop at a.u.now) in
    let found = max_from_yields_List _ c.max.result c.max.ensures.ran (YieldsList-from_slice xs cc) in
    c.unwrap_or.ensures ∙ ap (λ (o : Option ℕ). unwrap_or o 0) (c.copied.ensures ∙ found) ∙ max_all xs
    ∙ ap (most_to (λ (x : ℕ). get_or xs x 0)) (window_length a.u.now at a.n h)
    ∙ most_same (λ (x : ℕ). get_or xs x 0) (λ (x : ℕ). get_or a.u.now (class_place a.j a.j x) 0) a.n
    (λ x m. let y : at + x ≡ class_place a.j a.j x = omega (arith, c.row_of.ensures.rows) in window_at a.u.now at a.n x m ∙ ap (λ (p : ℕ). get_or a.u.now p 0) y)
