-- `whole::read_plan`: an empty text is doing nothing, a text over the limit is refused; else its lines decide, and what stands behind them.
use Rattle.std.proofs.Common.{ℕ, ◌≤◌, List, length, arith, sym, ap, ◌∙◌, false, ◌≡◌}
use borrow.Author.Tests.{eqb-true, eqb-false}
use lib.Dec.{eqb}
use Rattle.std.proofs.lemmas.Result.{err_from_is_err_and}
use Rattle.lines.specs.Parser.{accepted}
use Rattle.lines.proofs.Parsing.{whole_fault, whole_more, whole_value, text_fits}
use Rattle.model.specs.Model as model
use Rattle.jobs.specs.Views.{job_of}
use Rattle.plan_grammar.specs.Grammar.{max_bytes, plan_lines}
use Rattle.plan_grammar.proofs.Nothing.{read_none, read_lines, read_long}
use Rattle.plan_stops.proofs.Marks.{empty_made}
use Rattle.plan_text.specs.Views.{said}
use Rattle.plan_text.proofs.whole.read_plan.Goals as goal

-- a text that is not empty has a byte
some : (s : List ℕ) → eqb (length s) 0 ≡ false → 1 ≤ length s
some s e = let n = eqb-false _ _ e in omega (arith, n)

pub returns-then-is_empty : goal.returns-then-is_empty
returns-then-is_empty c = ap (λ (p : model.Plan). accepted (record { cost = 0; plan = p })) (empty_made c.args.job.now c.empty-plan.result c.empty-plan.ensures)
    ∙ read_none (job_of c.args.job.now) c.args.text.now (eqb-true _ _ (sym c.if-is_empty.ensures))

pub returns-then-text-gt-MAX_BYTES : goal.returns-then-text-gt-MAX_BYTES
returns-then-text-gt-MAX_BYTES c = read_long (job_of c.args.job.now) _ (omega arith)

pub returns-in_err-said : goal.returns-in_err-said
returns-in_err-said c = let s = c.args.text.now in
    let job = job_of c.args.job.now in
    let p = err_from_is_err_and c.from_residual.result c.from_residual.ensures.1 in
    let whole = whole_fault (plan_lines job) s c.of-lines.result c.read_plan_lines.new.lines c.of-lines.ensures.rest c.of-lines.ensures.line c.in_err-said.field-0.0 c.in_err-said.ensures in
    rw (p.1, p.2) (whole ∙ text_fits max_bytes (plan_lines job) s (omega arith) ∙ read_lines job s (some s (sym c.if-is_empty.ensures)))

pub returns-in_err-end : goal.returns-in_err-end
returns-in_err-end c = let s = c.args.text.now in
    let job = job_of c.args.job.now in
    let p = err_from_is_err_and c.from_residual-in_err-end.result c.from_residual-in_err-end.ensures.1 in
    let whole = whole_more (plan_lines job) s c.of-lines.result c.read_plan_lines.new.lines c.of-lines.ensures.rest c.of-lines.ensures.line _ c.in_err-end.field-0.0 c.in_ok-said.ensures c.in_err-end.ensures in
    rw (p.1, p.2) (whole ∙ text_fits max_bytes (plan_lines job) s (omega arith) ∙ read_lines job s (some s (sym c.if-is_empty.ensures)))

pub returns : goal.returns
returns c = let s = c.args.text.now in
    let job = job_of c.args.job.now in
    let whole = whole_value (plan_lines job) s c.of-lines.result c.read_plan_lines.new.lines c.of-lines.ensures.rest c.of-lines.ensures.line (said c.args.job.now c.in_ok-said.said) c.in_ok-said.ensures c.in_ok-end.ensures in
    whole ∙ text_fits max_bytes (plan_lines job) s (omega arith) ∙ read_lines job s (some s (sym c.if-is_empty.ensures))
