-- The lines of a refusal are few. By the keys, and the digits that a number can have.
use Prim.Native.Nat.{ℕ, ◌≤◌}
use mathlib.Core.Path.{◌≡◌}
use native.Mathlib.Omega.{arith}
use lib.ListN.{length, length-append}
use Rattle.lines.specs.Text.{bytes}
use Rattle.lines.proofs.Writing.{line_most}
use Rattle.line_writing.specs.Puts.{Room}
use Rattle.line_writing.specs.declared.output.Out.{Out}
use Rattle.answers.specs.Said.{fault_lines_lem, longest_refusal}

-- the lines of a refusal are no longer than the longest refusal
pub fault_short : (n t l : ℕ) → length (fault_lines_lem n t l) ≤ longest_refusal
unfolding fault_lines_lem bytes
fault_short n t l = simp length-append (omega (arith, line_most (bytes "result=") n, line_most (bytes "text=") t, line_most (bytes "line=") l))

-- an output that is as long as the longest refusal has room for a refusal at its start
pub fault_room : {o : Out} (n t l : ℕ) → o.at ≡ 0 → longest_refusal ≤ length o.bytes.now → Room o (fault_lines_lem n t l)
fault_room n t l start long = record { fits = omega (arith, start, long, fault_short n t l) }
