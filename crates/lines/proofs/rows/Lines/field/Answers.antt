-- `field`: by the line that was read, and then by its range.
use Rattle.std.specs.Prelude.{Some}
use native.Mathlib.Omega.{arith}
use mathlib.Core.Path.{◌≡◌, sym, ap, ◌∙◌, subst}
use lib.ListN.{length, length-drop}
use Rattle.lines.specs.Line.{read_line_lem}
use Rattle.lines.specs.Parser.{row_at, taken}
use Rattle.lines.proofs.Reading.{field_none, field_low, field_high, field_good, line_within, Within, rest_of}
use Rattle.lines.proofs.rows.Lines.field.Goals as goal
use Rattle.lines.proofs.rows.Lines.field.Goals.{In-Some}

-- the line that was read
line : (c : In-Some) → read_line_lem c.args.key.now c.args.self.now.rest.now ≡ Some (c.in-Some.value, c.in-Some.length)
line c = sym c.read_line.ensures ∙ c.in-Some.is

-- it has a byte, and no more than there are
within : (c : In-Some) → Within (length c.args.self.now.rest.now) (Some (c.in-Some.value, c.in-Some.length))
within c = subst (Within _) (line c) (line_within c.args.key.now c.args.self.now.rest.now)

pub returns-in_default-clause-reads : goal.returns-in_default-clause-reads
unfolding row_at taken
returns-in_default-clause-reads c = rw c.fault.ensures (ap (taken _ _) (field_none _ _ _ _ (sym c.read_line.ensures ∙ c.in_default.is)))

pub returns-then-value-from-clause-reads : goal.returns-then-value-from-clause-reads
unfolding row_at taken
returns-then-value-from-clause-reads c = rw c.fault-then-value-from.ensures (ap (taken _ _) (field_low _ _ _ _ (line (goal.at.returns-then-value-from-clause-reads c).In-Some) (omega arith)))

pub returns-then-from-value-clause-reads : goal.returns-then-from-value-clause-reads
unfolding row_at taken
returns-then-from-value-clause-reads c = rw c.fault-then-from-value.ensures (ap (taken _ _) (field_high _ _ _ _ (line (goal.at.returns-then-from-value-clause-reads c).In-Some) (omega arith) (omega arith)))

pub slice_bounds-self-count : goal.slice_bounds-self-count
slice_bounds-self-count c = (within (goal.at.slice_bounds-self-count c).In-Some).1

pub slice_bounds-self-start : goal.slice_bounds-self-start
slice_bounds-self-start c = (within (goal.at.slice_bounds-self-start c).In-Some).1

pub invariant_of-self : goal.invariant_of-self
invariant_of-self c = let s = c.args.self.now.rest.now in
    let n = c.in-Some.length in
    record { room = omega (arith, within (goal.at.invariant_of-self c).In-Some, c.args.self.now.room, ap length (rest_of s n), length-drop n s) }

pub returns-clause-reads : goal.returns-clause-reads
unfolding row_at taken
returns-clause-reads c = rw rest_of (ap (taken _ _) (field_good _ _ _ _ (line (goal.at.returns-clause-reads c).In-Some) (omega arith) (omega arith)))
