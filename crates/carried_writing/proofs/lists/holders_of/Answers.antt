-- `holders_of`: the numbers of the first j marks, one number more where the mark at hand is set.
use Prim.Native.Nat.{ℕ, ◌+◌}
use mathlib.Core.Path.{◌≡◌, sym, ap, ◌∙◌}
use mathlib.Core.Bool.{Bool, true, false, cond}
use mathlib.Core.List.{List, [], ◌∷◌, ◌++◌, append-nil}
use native.Mathlib.Omega.{arith}
use lib.ListN.{length, get_or}
use Rattle.base.specs.Joined.{joined}
use Rattle.base.specs.Chosen.{chosen}
use Rattle.base.proofs.Joined.{joined_more}
use Rattle.base.proofs.Chosen.{chosen_few}
use Rattle.carried_writing.specs.Lists.{held}
use Rattle.carried_writing.proofs.lists.holders_of.Goals as goal
use Rattle.carried_writing.proofs.lists.holders_of.Goals.{then-mark, else-mark}

-- the numbers of the first j marks
abbrev numbers : List Bool → ℕ → List ℕ
numbers marks j = chosen (λ i. get_or marks i false) (λ i. i + 1) j

-- one mark more
more : (marks : List Bool) (j : ℕ) (b : Bool) → get_or marks j false ≡ b → numbers marks (j + 1) ≡ numbers marks j ++ cond b ((j + 1) ∷ []) []
unfolding chosen
more marks j b e = joined_more (λ i. cond (get_or marks i false) ((i + 1) ∷ []) []) j ∙ ap (λ (t : Bool). numbers marks j ++ cond t ((j + 1) ∷ []) []) e

pub loop-j-init : goal.loop-j-init
unfolding chosen joined
loop-j-init c = c.none-holders.ensures

pub push-requires : goal.push-requires
push-requires c = let l = c.loop-j in
    omega (arith, chosen_few (λ i. get_or c.args.marks.now i false) (λ i. i + 1) l.j, ap length l.invariant)

pub loop-j-preserved : goal.loop-j-preserved
loop-j-preserved c = let l = c.loop-j in
    let marks = c.args.marks.now in
    elim c.if-mark.branch [
      | then-mark w ↦ ap held w.holders-is ∙ w.push.ensures ∙ ap (λ (xs : List ℕ). xs ++ (l.j + 1) ∷ []) l.invariant ∙ sym (more marks l.j true w.if-mark.true)
      | else-mark w ↦ ap held w.holders-is ∙ l.invariant ∙ sym (more marks l.j false w.if-mark.false ∙ append-nil (numbers marks l.j))
    ]

pub returns : goal.returns
returns c = let l = c.loop-j in
    let all : l.j ≡ length c.args.marks.now = omega (arith, c.loop-j-test.false, l.auto.j-end) in
    l.invariant ∙ ap (numbers c.args.marks.now) all
