-- `no_call` lets each line pass the step. The invariant: the lines before d have.
use Prim.Native.Nat.{ℕ}
use mathlib.Core.Path.{◌≡◌, sym, subst, ◌∙◌}
use mathlib.Core.Bool.{Bool}
use mathlib.Core.List.{List}
use Rattle.std.proofs.lemmas.Option.{none-some, same_Some}
use native.Mathlib.Omega.{arith}
use lib.ListN.{length}
use Rattle.hall_model.specs.Hall.{Hall}
use Rattle.hall_state.specs.declared.Ground.{Ground}
use Rattle.hall_state.specs.declared.Spot.{Spot}
use Rattle.hall_state.specs.Courses.{Arrays, Course}
use Rattle.hall_moves.specs.Asks.{Asking}
use Rattle.hall_calls.specs.Calls.{Passing}
use Rattle.hall_calls.proofs.Passes.{pass_begin}
use Rattle.hall_calls.proofs.no_call.Goals as goal

-- as many as there are courses
lines_are : {hall : Hall} {g : Ground} {a : Arrays} {p : Spot} {name : List Bool} {calls : ℕ} {cs : List Course} → Asking hall g a p name calls cs → g.ats.lines ≡ length cs
lines_are k = k.crewed.table.lines_are ∙ sym k.stood.count

pub loop-d-init : goal.loop-d-init
loop-d-init c = λ k. pass_begin k.asking k.is

pub line_passes-requires : goal.line_passes-requires
line_passes-requires c =
    let k = c.requires in
    let z = lines_are k.asking in
    (omega (arith, z, k.asking.stood.count, k.asking.crewed.fits.few), (c.args.rows.now, (k, c.loop-d.invariant k, omega (arith, z))))

pub returns-in_err-total : goal.returns-in_err-total
returns-in_err-total c = λ k.
    let z = lines_are k.asking in
    record {
      none = λ _. (c.line_passes.ensures c.args.rows.now k (omega (arith, z)) (c.loop-d.invariant k)).none c.in_err-total.was;
      some = λ y f. absurd (none-some y (sym c.from_residual.ensures ∙ f));
    }

pub loop-d-preserved : goal.loop-d-preserved
loop-d-preserved c = λ k.
    let z = lines_are k.asking in
    (c.line_passes.ensures c.args.rows.now k (omega (arith, z)) (c.loop-d.invariant k)).some c.in_ok-total.total c.in_ok-total.was

pub returns : goal.returns
returns c = let l = c.loop-d in
    λ k.
    let z = lines_are k.asking in
    let e : l.d ≡ length k.cs = omega (arith, z, l.auto.d-end) in
    record {
      none = λ f. absurd (none-some l.total (sym f));
      some = λ y f. subst (Passing c.args.ground.now c.args.rows.now l.rows c.args.p.step k.calls k.cs (length k.cs)) (same_Some l.total y f) (subst (λ (m : ℕ). Passing c.args.ground.now c.args.rows.now l.rows c.args.p.step k.calls k.cs m l.total) e (l.invariant k));
    }
