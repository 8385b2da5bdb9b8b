-- `read_openings`: what is read so far stands before what the chain of openings still gives.
use Rattle.std.proofs.Common.{rules, refl, ap}
use Rattle.std.proofs.lemmas.List.{take-append-le}
use Rattle.std.proofs.lemmas.Result.{err_from_is_err_and}
use Prim.Native.Nat.{ℕ}
use mathlib.Core.Path.{◌≡◌, ◌∙◌}
use mathlib.Core.List.{map}
use native.Mathlib.Omega.{arith}
use Rattle.base.proofs.Arrays.{map-take_more}
use Rattle.lines.proofs.Steps.{chain_none, chain_next, chain_stopped, chain_done}
use Rattle.jobs.specs.Views.{opening_of}
use Rattle.job_grammar.specs.Grammar as grammar
use Rattle.job_sections.specs.Views.{openings_said}
use Rattle.job_sections.proofs.openings.read_openings.Goals as goal

pub loop-place-init : goal.loop-place-init
loop-place-init c = record { size = search rules; read = chain_none _ _ _ _ _ _ refl }

pub loop-place-preserved : goal.loop-place-preserved
loop-place-preserved c = let l = c.loop-place in
    record {
      size = search rules;
      read = chain_next l.invariant.read c.read_opening.new.lines _ _ (omega (arith, l.invariant.size, c.loop-place-test.true)) c.in_ok-opening.ensures (map-take_more opening_of l.place-index l.place-items _ (omega (arith, c.loop-place-test.true)));
    }

pub returns-in_err-opening : goal.returns-in_err-opening
unfolding grammar.openings
returns-in_err-opening c = let l = c.loop-place in
    let p = err_from_is_err_and c.from_residual.result c.from_residual.ensures.1 in
    rw (p.1, p.2) (chain_stopped l.invariant.read c.read_opening.new.lines c.in_err-opening.field-0.0 (omega (arith, l.invariant.size, c.loop-place-test.true)) c.in_err-opening.ensures)

pub returns : goal.returns
unfolding grammar.openings
returns c = let l = c.loop-place in
    let all : c.args.n ≡ l.place-index = omega (arith, l.invariant.size) in
    chain_done l.invariant.read _ (omega (arith, all)) (ap (map opening_of) (take-append-le c.args.n l.place-items _ (omega (arith, l.invariant.size))) ∙ ap (λ (k : ℕ). openings_said k l.place-items) all)
