-- `turn_rows` turns each number by itself, since no two stand at one place. The invariant: those of the first j rows are turned.
use Prim.Native.Nat.{ℕ, ◌+◌, ◌*◌, ◌<◌, ◌≤◌}
use mathlib.Core.Path.{◌≡◌, refl, sym, ap, subst, ◌∙◌}
use native.Mathlib.Nat.{mul-le-mul_right}
use native.Mathlib.Omega.{arith}
use lib.ListN.{get_or}
use Rattle.lane_rows.specs.Layout.{mark_count, block_rows, triangle}
use Rattle.lane_rows.proofs.Rising.{row_below, row_inside}
use Rattle.search_tables.specs.Fill.{Triangle, step_place}
use Rattle.search_tables.proofs.Apart.{step_apart, step_row}
use Rattle.search_tables.proofs.Triangles.{triangle_more}
use Rattle.search_tables.proofs.rows.turn_rows.Goals as goal

pub turn_row-requires-clause-room : goal.turn_row-requires-clause-room
turn_row-requires-clause-room g c = let a = c.args in
    let j = c.loop-j.j-counter in
    let inside = row_inside j j mark_count (omega arith) (omega (arith, c.requires.few)) in
    let z : (triangle j + j + 1) * a.stride ≤ block_rows * a.stride = mul-le-mul_right a.stride (omega (arith, inside)) in
    rw c.row_of.ensures.rows (omega (arith, z, c.requires.room, c.requires.apart))

pub loop-j-preserved : goal.loop-j-preserved
loop-j-preserved g c h said = let a = c.args in
    let l = c.loop-j in
    let j = l.j-counter in
    let before : Triangle (λ (j i : ℕ). step_place a.base a.stride (triangle j + i)) h j a.t.now l.t = l.invariant h said in
    let apart : (k i n : ℕ) → i ≤ k → k < j → n ≤ j → step_place a.base a.stride (triangle k + i) ≡ step_place a.base a.stride (triangle j + n) → ⊥ =
    λ k i n x y z e. step_apart a.base a.stride (triangle k + i) (triangle j + n) c.requires.apart (omega (arith, row_below k i j x y)) e in
    let place : (i : ℕ) → a.base + c.row_of.result * a.stride + i * a.stride ≡ step_place a.base a.stride (triangle j + i) = λ i. rw c.row_of.ensures.rows (omega arith) in
    let same : (i : ℕ) → i ≤ j → get_or l.t (step_place (a.base + c.row_of.result * a.stride) a.stride i) 0 ≡ get_or a.t.now (step_place a.base a.stride (triangle j + i)) 0 =
    λ i x. ap (λ (p : ℕ). get_or l.t p 0) (place i) ∙ before.rest (step_place a.base a.stride (triangle j + i)) (λ k n y z e. apart k n i y z x (sym e)) in
    let row = c.turn_row.ensures (h j) (λ i v x p. said j i v (omega (arith, x)) c.loop-j-test.true (subst (λ (n : ℕ). goal.F-post g a.f j i n v) (same i (omega (arith, x))) p)) in
    triangle_more (h j) (λ i l. refl) apart
    (step_row a.base a.stride (triangle j) (rw c.row_of.ensures.rows at row)) before

pub returns : goal.returns
returns g c h said = let z : c.loop-j.j-counter ≡ c.args.m = omega arith in
    subst (λ (m : ℕ). Triangle (λ (j i : ℕ). step_place c.args.base c.args.stride (triangle j + i)) h m c.args.t.now c.loop-j.t) z (c.loop-j.invariant h said)
