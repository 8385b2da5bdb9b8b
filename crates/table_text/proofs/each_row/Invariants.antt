use Prim.Native.Nat.{ℕ, ◌-◌}
use mathlib.Core.List.{List}
use Rattle.table_text.specs.Pieces.{Walks}
use Rattle.table_text.proofs.each_row.Given as goal

-- the rows that are left to read are the end of all rows
abbrev pub invariant-loop-at : goal.invariant-loop-at
invariant-loop-at g l =
    goal.F-IsAlwaysCallable g l.row
    × ((ends : List ℕ) (last : _) → Walks (λ f at next h. goal.F-step g f at next h) l.size l.at l.row ends last → (all : List ℕ) × Walks (λ f at next h. goal.F-step g f at next h) l.size 0 l.fn.row all last)

abbrev pub decreases-loop-at : goal.decreases-loop-at
decreases-loop-at g l = l.size - l.at
