-- `head_at`: the line at the place is read off the rest of the table, and has no more bytes than the rest.
use Prim.Native.Nat.{ℕ}
use mathlib.Core.Path.{◌≡◌, sym, ap, ◌∙◌, subst}
use native.Mathlib.Omega.{arith}
use lib.ListN.{length, drop, length-drop}
use Rattle.std.specs.Prelude.{Some}
use Rattle.std.proofs.lemmas.List.{drop_min}
use Rattle.lines.specs.Line.{read_line_lem}
use Rattle.lines.proofs.Reading.{rest_of, Within, line_within}
use Rattle.table_text.specs.Pieces.{head_of}
use Rattle.table_text.proofs.head_at.Goals as goal
use Rattle.table_text.proofs.head_at.Goals.{In-Some}

-- what was read, of the rest of the table
got : (c : In-Some) → let a = c.args in
    read_line_lem a.key.now (drop a.at a.table.now) ≡ Some (c.in-Some.n, c.in-Some.k)
got c = ap (read_line_lem c.args.key.now) (sym (ap (λ (k : ℕ). drop k c.args.table.now) c.min.ensures ∙ drop_min c.args.at c.args.table.now)) ∙ (rw rest_of at (sym c.read_line.ensures ∙ c.in-Some.is))

within : (c : In-Some) → let a = c.args in
    Within (length (drop a.at a.table.now)) (Some (c.in-Some.n, c.in-Some.k))
within c = subst (Within _) (got c) (line_within _ _)

pub overflow_add-result : goal.overflow_add-result
overflow_add-result c = omega (arith, within (goal.at.overflow_add-result c).In-Some, length-drop c.args.at c.args.table.now, c.well_formed)

pub returns : goal.returns
unfolding head_of
returns c = let t = c.args.table.now in
    let w = within (goal.at.returns c).In-Some in
    (ap (head_of (length t) c.args.at) (sym (got (goal.at.returns c).In-Some)), omega (arith, w, length-drop c.args.at t))

pub returns-in_default : goal.returns-in_default
unfolding head_of
returns-in_default c = let t = c.args.table.now in
    let got = ap (read_line_lem c.args.key.now) (sym (ap (λ (k : ℕ). drop k t) c.min.ensures ∙ drop_min c.args.at t)) ∙ (rw rest_of at (sym c.read_line.ensures ∙ c.in_default.is)) in
    (ap (head_of (length t) c.args.at) (sym got), omega arith)
