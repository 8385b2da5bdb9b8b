-- `learn` writes the memo's row for one row of the stack more, and notes that it is known.
use Prim.Native.Nat.{ℕ, ◌+◌, ◌*◌, ◌<◌, ◌≤◌}
use mathlib.Core.Path.{sym, subst}
use mathlib.Core.List.{List}
use native.Mathlib.Omega.{arith}
use lib.ListN.{get_or}
use Rattle.lane_rows.specs.Layout.{lane_count_lem, mark_place, suffix_base, memo_base, triangle, lanes_in}
use Rattle.lane_rows.specs.Rows.{Stepped, FoursAsks, Looks, Learnt}
use Rattle.lane_rows.proofs.Rising.{triangle_next}
use Rattle.lane_rows.proofs.Memory.{noted, fours_asks, learnt}
use Rattle.lane_rows.proofs.learn.Goals as goal
use Rattle.lane_rows.proofs.learn.Goals.{After-row_of-row, Start}
use Rattle.lane_rows.proofs.learn.Given as given

-- no mark is above the level
marked : (g : given.Over) (s : Start g) → get_or s.args.w.now (mark_place s.args.m) 0 ≤ 64
marked g s = let l = s.requires.0 in omega (arith, l.1.stack.marks s.args.m l.2, l.1.stack.near)

pub overflow_cast-i : goal.overflow_cast-i
overflow_cast-i g c = omega (arith, marked g (goal.at.overflow_cast-i g c).Start)

pub overflow_add-level-2 : goal.overflow_add-level-2
overflow_add-level-2 g c = omega (arith, c.requires.0.1.stack.near)

pub overflow_add-e : goal.overflow_add-e
overflow_add-e g c = omega (arith, marked g (goal.at.overflow_add-e g c).Start)

pub overflow_mul-e : goal.overflow_mul-e
overflow_mul-e g c = omega (arith, marked g (goal.at.overflow_mul-e g c).Start)

pub overflow_add-e-2 : goal.overflow_add-e-2
overflow_add-e-2 g c = omega (arith, marked g (goal.at.overflow_add-e-2 g c).Start)

pub overflow_add-out-2 : goal.overflow_add-out-2
overflow_add-out-2 g c = omega (arith, c.requires.0.1.stack.near, c.requires.0.1.stack.few, c.requires.0.2)

pub overflow_mul-out : goal.overflow_mul-out
overflow_mul-out g c = omega (arith, c.requires.0.1.stack.near, c.requires.0.1.stack.few, c.requires.0.2)

pub overflow_add-out-3 : goal.overflow_add-out-3
overflow_add-out-3 g c = omega (arith, c.requires.0.1.stack.near, c.requires.0.1.stack.few, c.requires.0.2)

-- the places, as the code finds them and as the memo has them
abbrev here : (g : given.Over) → After-row_of-row g → ℕ → ℕ
here g c x = let a = c.args in suffix_base + (x + get_or a.w.now (mark_place a.m) 0) * lane_count_lem

abbrev next : (g : given.Over) → After-row_of-row g → ℕ → ℕ
next g c y = memo_base + (y + (c.args.m + 1)) * lane_count_lem

there : (g : given.Over) (P : ℕ → ℕ → Type 0) (c : After-row_of-row g) → let j = c.args.j in P (here g c (triangle j)) (next g c (triangle (j + 1))) → P (here g c c.row_of-row.result) (next g c (c.row_of-row.result + (j + 1)))
there g P c h =
    let j = c.args.j in
    subst (λ (x : ℕ). P (here g c x) (next g c (x + (j + 1)))) (sym c.row_of-row.ensures.rows) (subst (λ (y : ℕ). P (here g c (triangle j)) (next g c y)) (triangle_next j) h)

back : (g : given.Over) (P : ℕ → ℕ → Type 0) (c : After-row_of-row g) → let j = c.args.j in P (here g c c.row_of-row.result) (next g c (c.row_of-row.result + (j + 1))) → P (here g c (triangle j)) (next g c (triangle (j + 1)))
back g P c h =
    let j = c.args.j in
    subst (λ (y : ℕ). P (here g c (triangle j)) (next g c y)) (sym (triangle_next j)) (subst (λ (x : ℕ). P (here g c x) (next g c (x + (j + 1)))) c.row_of-row.ensures.rows h)

-- that the row is known is noted
abbrev marks : (g : given.Over) → After-row_of-row g → List ℕ
marks g c = let a = c.args in noted a.t.now a.w.now c.requires.0.0 a.m a.j c.requires.0.1 c.requires.0.2 c.requires.1

asked : (g : given.Over) (c : After-row_of-row g) → let a = c.args in FoursAsks a.t.now (marks g c) (a.m * lane_count_lem) (here g c c.row_of-row.result) (next g c (c.row_of-row.result + (a.j + 1)))
asked g c =
    let a = c.args in
    there g (λ (x y : ℕ). FoursAsks a.t.now (marks g c) (a.m * lane_count_lem) x y) c (fours_asks a.t.now a.w.now c.requires.0.0 a.m a.j c.requires.0.1 c.requires.0.2 c.requires.1)

gained : (g : given.Over) (c : After-row_of-row g) (w : List ℕ) (r : ℕ) → let a = c.args in Stepped (lanes_in a.t.now) a.t.now (marks g c) w (a.m * lane_count_lem) (here g c c.row_of-row.result) (next g c (c.row_of-row.result + (a.j + 1))) r
    → (n : ℕ) → Looks a.t.now a.w.now n a.j → a.m < n → Learnt a.t.now a.w.now w n a.m a.j r
gained g c w r u n l h =
    let a = c.args in
    learnt a.t.now a.w.now n a.m a.j l h c.requires.1 w r (back g (λ (x y : ℕ). Stepped (lanes_in a.t.now) a.t.now (marks g c) w (a.m * lane_count_lem) x y r) c u)

pub step_row-requires : goal.step_row-requires
step_row-requires g c = (asked g (goal.at.step_row-requires g c).After-row_of-row).asks

pub returns-then-this-ne0 : goal.returns-then-this-ne0
returns-then-this-ne0 g c = gained g (goal.at.returns-then-this-ne0 g c).After-row_of-row c.step_row.new.w c.step_row.result c.step_row.ensures

pub step_fours-requires : goal.step_fours-requires
step_fours-requires g c = asked g (goal.at.step_fours-requires g c).After-row_of-row

pub returns : goal.returns
returns g c = gained g (goal.at.returns g c).After-row_of-row c.step_fours.new.w c.step_fours.result c.step_fours.ensures
