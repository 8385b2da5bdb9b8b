-- `read_idle_steps`: what is read so far stands before what the chain of idle steps still gives.
use Rattle.std.proofs.Common.{rules, refl, ap}
use Rattle.std.proofs.lemmas.List.{take-append-le}
use Rattle.std.proofs.lemmas.Result.{err_from_is_err_and}
use Prim.Native.Nat.{ℕ}
use mathlib.Core.Path.{◌≡◌, ◌∙◌}
use native.Mathlib.Omega.{arith}
use lib.ListN.{take}
use Rattle.lines.specs.Text.{bytes}
use Rattle.base.proofs.Arrays.{take_more}
use Rattle.lines.proofs.Steps.{chain_none, chain_next, chain_stopped, chain_done}
use Rattle.job_grammar.specs.Grammar.{idle, idle_steps_lem}
use Rattle.job_sections.proofs.idles.read_idle_steps.Goals as goal

pub loop-place-init : goal.loop-place-init
loop-place-init c = record { size = search rules; read = chain_none _ _ _ _ _ _ refl }

pub loop-place-preserved : goal.loop-place-preserved
unfolding idle bytes
loop-place-preserved c = let l = c.loop-place in
    record {
      size = search rules;
      read = chain_next l.invariant.read c.rising.new.self _ _ (omega (arith, l.invariant.size, c.loop-place-test.true)) c.in_ok-step.ensures.reads (take_more l.place-index l.place-items _ (omega (arith, c.loop-place-test.true)));
    }

pub returns-in_err-step : goal.returns-in_err-step
unfolding idle_steps_lem idle bytes
returns-in_err-step c = let l = c.loop-place in
    let p = err_from_is_err_and c.from_residual.result c.from_residual.ensures.1 in
    rw (p.1, p.2) (chain_stopped l.invariant.read c.rising.new.self c.in_err-step.field-0.0 (omega (arith, l.invariant.size, c.loop-place-test.true)) c.in_err-step.ensures.reads)

pub returns : goal.returns
unfolding idle_steps_lem
returns c = let l = c.loop-place in
    let all : c.args.n ≡ l.place-index = omega (arith, l.invariant.size) in
    chain_done l.invariant.read _ (omega (arith, all)) (take-append-le c.args.n l.place-items _ (omega (arith, l.invariant.size)) ∙ ap (λ (k : ℕ). take k l.place-items) all)
