-- A level written, levels kept, and a node's numbers where they are kept.
use Prim.Native.Nat.{ℕ, ◌+◌, ◌*◌, ◌<◌, ◌≤◌}
use mathlib.Core.Path.{◌≡◌, refl, sym, ap, subst, ◌∙◌}
use mathlib.Core.Bool.{Bool, true, false}
use mathlib.Core.List.{List}
use native.Mathlib.Omega.{arith}
use lib.ListN.{length, set, length-set}
use lib.Seq.{get_or-set_same, get_or-set_other}
use Rattle.held_rows.specs.Held.{HeldSheet, held}
use Rattle.held_nodes.specs.declared.Node.{Node}
use Rattle.held_nodes.specs.State.{At}
use Rattle.held_nodes.proofs.Frames.{at_open}
use Rattle.hall_nodes.specs.Lines.{with_rows}
use Rattle.hall_lines.specs.declared.LineTables.{LineTables}
use Rattle.hall_lines.specs.declared.Level.{Level}
use Rattle.hall_lines.specs.declared.LineRows.{LineRows}
use Rattle.hall_lines.specs.declared.Stop.{Stop}
use Rattle.hall_lines.specs.Levels.{no_level, LevelsKept, LevelPut}
use Rattle.hall_lines.specs.Lines.{slot_with, open_slot, stop_slot}

-- where a level is written it stands, and the levels before it are kept
pub level_put : (n : List Level) (at : ℕ) (l : Level) → at < length n → LevelPut n (set n at l) at l
level_put n at l h = record { level_is = get_or-set_same n at l no_level h; kept = record { size = length-set n at l; below = λ i j. get_or-set_other n at i l no_level (λ z. omega (arith, z, j)) } }

-- where nothing is written every level is kept
pub levels_none : (n : List Level) (k : ℕ) → LevelsKept n n k
levels_none n k = record { size = refl; below = λ i l. refl }

-- levels kept first, and then again of no fewer, are kept throughout
pub levels_then : (n n' n'' : List Level) (j k : ℕ) → j ≤ k → LevelsKept n n' j → LevelsKept n' n'' k → LevelsKept n n'' j
levels_then n n' n'' j k h a b = record { size = b.size ∙ a.size; below = λ i l. b.below i (omega arith) ∙ a.below i l }

-- a line at a level that is kept is as before but for its rows, and so is one at a stop behind it
pub level_same : (sheet : HeldSheet) (ds : List (List Bool)) (tb : LineTables) (o o' : LineRows) (at paid : ℕ) → LevelsKept o.n o'.n (at + 1) → open_slot sheet ds tb o' at paid ≡ with_rows (open_slot sheet ds tb o at paid) o'.w o'.v
level_same sheet ds tb o o' at paid k =
    ap (λ (l : Level). slot_with sheet ds tb o' (record { at = at; rows = l.rows; next = held sheet; owed = false; shut = 0; removed = 0; spent = paid; mask = l.mask }) l.sums l.term) (k.below at (omega arith))

-- a line's numbers at a stop are the same where the levels up to it are kept
pub stop_same : (sheet : HeldSheet) (ds : List (List Bool)) (tb : LineTables) (o o' : LineRows) (at paid : ℕ) (p : Stop) → LevelsKept o.n o'.n (at + 1) → stop_slot sheet ds tb o' at paid p ≡ with_rows (stop_slot sheet ds tb o at paid p) o'.w o'.v
stop_same sheet ds tb o o' at paid p k =
    ap (λ (l : Level). slot_with sheet ds tb o' (record { at = at + 1; rows = l.rows; next = p.next; owed = true; shut = p.shut; removed = p.removed; spent = paid; mask = l.mask * 2 + 1 }) p.sums p.term) (k.below at (omega arith))

-- a node at an opening, whatever its last stop was shut to: these numbers are all that is said of it
pub at_plain : {sheet : HeldSheet} {ds : List (List Bool)} {t u w v : List ℕ} {p : Node} {x g : ℕ} → At sheet ds t u w v p x g → p.owed ≡ false → (r next m y h : ℕ) → r ≡ p.rows → next ≡ p.next → m ≡ p.mask → y ≡ x → h ≡ g
    → At sheet ds t u w v (record { at = p.at; rows = r; next = next; owed = false; shut = 0; removed = 0; spent = p.spent; mask = m }) y h
at_plain {sheet} {ds} {t} {u} {w} {v} {p} {x} {g} a o r next m y h er en em ey eh =
    subst (λ (z : Node × ℕ × ℕ). At sheet ds t u w v z.0 z.1 z.2)
    (λ i. (record { at = p.at; rows = sym er i; next = sym en i; owed = false; shut = 0; removed = 0; spent = p.spent; mask = sym em i }, sym ey i, sym eh i))
    (at_open a refl p.rows 0 0 (a.opening o).all (a.opening o).next)
