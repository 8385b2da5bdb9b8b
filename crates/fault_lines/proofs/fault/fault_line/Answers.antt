-- `fault_line`: the span of `fault_span` cuts the line out of the text.
use Prim.Native.Nat.{ℕ}
use mathlib.Core.Path.{ap, sym, ◌∙◌, subst}
use native.Mathlib.Nat.{add-sub_cancel_left}
use native.Mathlib.Omega.{arith}
use lib.ListN.{take, drop}
use Rattle.fault_lines.specs.Fault.{fault_line_lem, Cuts}
use Rattle.fault_lines.proofs.Breaks.{span_cuts}
use Rattle.fault_lines.proofs.fault.fault_line.Goals as goal
use Rattle.fault_lines.proofs.fault.fault_line.Goals.{After-fault_span-span}

cut : (c : After-fault_span-span) → let a = c.args in Cuts a.text.now (fault_line_lem a.line a.text.now) c.fault_span-span.result
cut c = let a = c.args in subst (Cuts a.text.now (fault_line_lem a.line a.text.now)) (sym c.fault_span-span.ensures) (span_cuts a.text.now a.line)

pub overflow_add-end : goal.overflow_add-end
overflow_add-end c = omega (arith, (cut (goal.at.overflow_add-end c).After-fault_span-span).inside)

pub slice_bounds-result-end : goal.slice_bounds-result-end
slice_bounds-result-end c = (cut (goal.at.slice_bounds-result-end c).After-fault_span-span).inside

pub returns : goal.returns
returns c = let p = c.fault_span-span.result in
    ap (λ (k : ℕ). take k (drop p.start c.args.text.now)) (add-sub_cancel_left p.start p.length) ∙ (cut (goal.at.returns c).After-fault_span-span).is
