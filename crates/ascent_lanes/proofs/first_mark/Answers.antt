-- `first_mark`: the search over the rows that a mark may have.
use Rattle.std.proofs.Common.{rules, tests, arith, ◌≡◌, ◌∙◌, ap, ◌+◌, ◌*◌, ◌≤◌, ℕ, length, get_or}
use lib.ListN.{length-take, length-drop}
use Rattle.std.proofs.lemmas.Iterator.{YieldsList-from_slice, IsFirst-from_position}
use Rattle.lane_rows.specs.Layout.{place}
use Rattle.ascent_lanes.specs.Tables.{SomeLasts, NoneLasts}
use Rattle.ascent_lanes.proofs.Marks.{row_at, first_mark_at}
use Rattle.ascent_lanes.proofs.first_mark.Goals as goal

pub returns : goal.returns
returns c = let a = c.args in
    let at = a.base + c.row_of.result * 16 in
    let ls = c.as_chunks.result.0.now in
    let e = c.as_chunks.ensures in
    let found = IsFirst-from_position _ _ c.position.result (SomeLasts a.parts) (NoneLasts a.parts) c.position.ensures.ran (YieldsList-from_slice ls cc) (λ x q k. search (rules, tests)) (λ x q k. search (rules, tests)) in
    let long : a.j ≤ length ls = omega (arith, c.row_of.ensures.few, simp (length-take, length-drop) at e.front_len) in
    let same : (m q : ℕ) → at + m * 16 + q ≡ place a.base a.j m q = λ m q. omega (arith, c.row_of.ensures.rows) in
    rw (c.min.ensures, c.unwrap_or.ensures) (first_mark_at a.t.now a.base a.j a.parts ls (omega arith) long
    (λ m q d l g. row_at a.t.now at _ ls e.front e.front_len m q d l g ∙ ap (λ (x : ℕ). get_or a.t.now x 0) (same m q))
    c.position.result found)
