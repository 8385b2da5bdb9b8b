-- `turn_row` turns each number by itself, since no two stand at one place. The invariant: the first i are turned.
use Prim.Native.Nat.{ℕ, ◌<◌}
use mathlib.Core.Path.{◌≡◌, subst}
use native.Mathlib.Omega.{arith}
use Rattle.base.specs.Filled.{FilledBy}
use Rattle.base.proofs.Filled.{filled_more}
use Rattle.search_tables.specs.Fill.{step_place}
use Rattle.search_tables.proofs.Apart.{step_before, step_apart}
use Rattle.search_tables.proofs.rows.turn_row.Goals as goal

pub loop-i-preserved : goal.loop-i-preserved
loop-i-preserved g c h said = let a = c.args in
    let l = c.loop-i in
    let before : FilledBy (step_place a.at a.stride) h l.i a.t.now l.t = l.invariant h said in
    let apart : (y : ℕ) → y < l.i → step_place a.at a.stride y ≡ step_place a.at a.stride l.i → ⊥ = λ y k e. step_apart a.at a.stride y l.i c.requires.apart k e in
    let same = before.rest (step_place a.at a.stride l.i) (λ y k e. step_apart a.at a.stride y l.i c.requires.apart k (omega (arith, e))) in
    filled_more c.f.result (omega (arith, step_before a.at a.stride l.i a.n c.loop-i-test.true, c.requires.room)) apart
    (said l.i c.f.result c.loop-i-test.true (subst (λ (v : ℕ). goal.F-post g a.f l.i v c.f.result) same c.f.ensures)) before

pub returns : goal.returns
returns g c h said = let z : c.loop-i.i ≡ c.args.n = omega arith in subst (λ (n : ℕ). FilledBy (step_place c.args.at c.args.stride) h n c.args.t.now c.loop-i.t) z (c.loop-i.invariant h said)
