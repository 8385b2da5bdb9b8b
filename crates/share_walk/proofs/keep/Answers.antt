-- `keep` writes one decision after the other. The invariant: the first i are there.
use Prim.Native.Nat.{ℕ}
use mathlib.Core.Path.{◌≡◌, refl, sym, ap, ◌∙◌}
use mathlib.Core.Bool.{Bool, false}
use mathlib.Core.List.{List, [], ◌∷◌, ◌++◌}
use lib.ListN.{get_or, take, set, length-set}
use lib.Seq.{take-suc, take-suc-set}
use native.Mathlib.Omega.{arith}
use native.Mathlib.Numerals.{add-one}
use Rattle.share_walk.proofs.keep.Goals as goal

pub loop-i-init : goal.loop-i-init
loop-i-init c = (refl, refl)

pub loop-i-preserved : goal.loop-i-preserved
loop-i-preserved c = let l = c.loop-i in
    let a = c.args in
    let b = get_or a.name.now l.i false in (
      length-set l.best l.i b ∙ l.invariant.0,
      ap (λ (k : ℕ). take k (set l.best l.i b)) (add-one l.i)
          ∙ take-suc-set l.best l.i b (omega arith)
          ∙ ap (λ (q : List Bool). q ++ (b ∷ [])) l.invariant.1
          ∙ sym (take-suc a.name.now l.i false (omega arith))
          ∙ ap (λ (k : ℕ). take k a.name.now) (sym (add-one l.i)),
    )

pub returns : goal.returns
returns c = let l = c.loop-i in
    let z : l.i ≡ c.args.size = omega arith in
    rw z at l.invariant.1
