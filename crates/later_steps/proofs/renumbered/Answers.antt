-- `renumbered`: the first entries are the steps from the place n on, less the step.
use Prim.Native.Nat.{ℕ, ◌-◌}
use mathlib.Core.Path.{◌≡◌, refl, sym, ap, subst, ◌∙◌}
use mathlib.Core.List.{List, [], ◌∷◌, ◌++◌, map}
use native.Mathlib.Omega.{arith}
use lib.ListN.{length, get_or, take, drop, length-set, length-drop}
use lib.Seq.{take_all}
use Rattle.base.proofs.Arrays.{take_more}
use Rattle.carry.proofs.Later.{After}
use Rattle.later_steps.proofs.Steps.{seen_more, after_at}
use Rattle.later_steps.proofs.renumbered.Goals as goal

-- the steps from place n on, as the code holds them
abbrev behind : List ℕ → ℕ → List ℕ
behind steps n = take (length steps - n) (drop n steps)

behind_is : (steps : List ℕ) (n : ℕ) → behind steps n ≡ drop n steps
behind_is steps n = take_all (length steps - n) (drop n steps) (omega (arith, length-drop n steps))

behind_size : (steps : List ℕ) (n : ℕ) → length (behind steps n) ≡ length steps - n
behind_size steps n = ap length (behind_is steps n) ∙ length-drop n steps

pub loop-i-init : goal.loop-i-init
loop-i-init c = (refl, refl)

pub overflow_sub-later : goal.overflow_sub-later
overflow_sub-later c = let a = c.args in
    omega (arith, after_at a.step (behind a.steps.now a.n) (subst (After a.step) (sym (behind_is a.steps.now a.n)) c.requires.2) c.loop-i.i c.loop-i-test.true)

pub loop-i-preserved : goal.loop-i-preserved
loop-i-preserved c = let l = c.loop-i in
    let a = c.args in
    let less : ℕ → ℕ = λ x. x - a.step in
    let xs = behind a.steps.now a.n in (
      simp length-set l.invariant.0,
      take_more l.i l.later _ (omega (arith, c.requires.0, l.invariant.0, c.loop-i-test.true, behind_size a.steps.now a.n)) ∙ ap (λ (ys : List ℕ). ys ++ less (get_or xs l.i 0) ∷ []) l.invariant.1
          ∙ sym (seen_more less xs l.i c.loop-i-test.true),
    )

pub returns : goal.returns
returns c = let l = c.loop-i in
    let a = c.args in
    let steps = a.steps.now in
    let all : l.i ≡ length steps - a.n = omega (arith, c.loop-i-test.false, l.auto.i-end, behind_size steps a.n) in
    ap (λ (k : ℕ). take k l.later) (sym all) ∙ l.invariant.1 ∙ ap (map (λ (x : ℕ). x - a.step)) (take_all l.i (behind steps a.n) (omega (arith, all, behind_size steps a.n)) ∙ behind_is steps a.n)
