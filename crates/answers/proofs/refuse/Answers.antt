-- `refuse`: the lines of the fault are handed over, and the span is where its line stands.
use native.Mathlib.Omega.{arith}
use Prim.Native.Nat.{ℕ, ◌≤◌}
use borrow.Author.Rules.{rules}
use mathlib.Core.Path.{ap₂}
use Rattle.fault_lines.specs.declared.fault.Span.{Span}
use lib.ListN.{length}
use Rattle.lines.specs.Fault.{number_of_lem}
use Rattle.answers.specs.Said.{refusal, longest_refusal}
use Rattle.answers.proofs.Lengths.{fault_short, fault_room}
use Rattle.answers.proofs.refuse.Goals as goal

pub hand_over-requires : goal.hand_over-requires
hand_over-requires c o start long = let room : longest_refusal ≤ length o.now.bytes.now = omega (arith, c.requires.1, long) in search (rules, fault_room, room, start)

pub returns : goal.returns
returns c = let a = c.args in
    let n = number_of_lem a.fault.kind in
    let l = a.fault.line in
    c.hand_over.ensures (refusal a.which a.text.now n l)
    (ap₂
    (λ (k : ℕ) (x : Span). record { result = k; text = a.which; line = l; length = 0; fault_start = x.start; fault_length = x.length })
    c.number-number.ensures c.fault_span-span.ensures)
    (omega (arith, c.requires.1, fault_short n a.which l))
    (λ o p start put. rw (← c.number-number.ensures) (search rules))
