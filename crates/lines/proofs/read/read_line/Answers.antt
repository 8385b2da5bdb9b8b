-- `read_line`: by the key, and then by the value behind it.
use native.Mathlib.Omega.{arith}
use mathlib.Core.Path.{◌≡◌, ap, sym, ◌∙◌, subst}
use Prim.Native.Nat.{ℕ}
use mathlib.Core.List.{List}
use lib.ListN.{length}
use Rattle.lines.specs.Line.{read_line_lem, read_value_lem, after}
use Rattle.lines.proofs.Reading.{value_within, Within, line_not, line_is, strips_same}
use Rattle.lines.proofs.read.read_line.Goals as goal
use Rattle.lines.proofs.read.read_line.Goals.{In_ok-behind}

pub returns-in_err-behind : goal.returns-in_err-behind
returns-in_err-behind c = c.from_residual.ensures ∙ line_not _ _ (sym (strips_same _ _) ∙ c.in_err-behind.ensures.cases)

-- the line is the value behind the key, and the key
line : (c : In_ok-behind) → read_line_lem c.args.key.now c.args.s.now ≡ after (length c.args.key.now) (read_value_lem c.in_ok-behind.behind.now)
line c = let k = c.in_ok-behind.ensures.cases in
    line_is _ _ (sym (strips_same _ _) ∙ k.0) ∙ ap (λ (s : List ℕ). after (length c.args.key.now) (read_value_lem s)) (sym k.1)

pub returns-in_err-value : goal.returns-in_err-value
returns-in_err-value c = c.from_residual-in_err-value.ensures ∙ sym (line (goal.at.returns-in_err-value c).In_ok-behind ∙ ap (after _) (sym c.in_err-value.ensures))

pub overflow_add-result : goal.overflow_add-result
overflow_add-result c = omega (arith, c.in_ok-behind.ensures.cases, subst (Within _) (sym c.in_ok-value.ensures) (value_within c.in_ok-behind.behind.now))

pub returns : goal.returns
returns c = sym (line (goal.at.returns c).In_ok-behind ∙ ap (after _) (sym c.in_ok-value.ensures))
