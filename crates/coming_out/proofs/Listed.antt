-- A row of marks and the numbers that it stands for: a number is on the list exactly if its mark is set. By recursion over the marks.
use mathlib.Core.Path.{◌≡◌, refl, sym, ap, ap₂, ◌∙◌}
use mathlib.Core.Bool.{Bool, true, false, cond, ◌||◌, beq}
use mathlib.Core.List.{List, [], ◌∷◌, ◌++◌}
use Prim.Native.Nat.{ℕ, zero, suc, ◌+◌, ◌<◌}
use native.Mathlib.Omega.{arith}
use borrow.Author.Tests.{eq-eqb, ne_eqb, lt-ltb}
use lib.Dec.{ltb}
use lib.ListN.{length, get_or}
use Rattle.base.specs.Joined.{joined}
use Rattle.base.specs.Chosen.{chosen, numbers_of_lem}
use Rattle.std.specs.List.{list_any}
use Rattle.base.proofs.Chosen.{chosen_front, chosen_same}
use Rattle.model.specs.Model.{listed}

-- the numbers of marks, counted from b on
abbrev from : ℕ → List Bool → List ℕ
from b marks = chosen (λ i. get_or marks i false) (λ i. i + b) (length marks)

from_more : (b : ℕ) (x : Bool) (marks : List Bool) → from b (x ∷ marks) ≡ cond x (b ∷ []) [] ++ from (suc b) marks
from_more b x marks =
    chosen_front (λ i. get_or (x ∷ marks) i false) (λ i. i + b) (length marks)
    ∙ ap₂ (λ (h : ℕ) (t : List ℕ). cond x (h ∷ []) [] ++ t) (let z : 0 + b ≡ b = omega arith in z)
    (chosen_same _ _ (λ i. suc i + b) (λ i. i + suc b) (length marks) (λ i l. refl) (λ i l. let z : suc i + b ≡ i + suc b = omega arith in z))

-- no number below b
below : (b n : ℕ) (marks : List Bool) → n < b → listed (from b marks) n ≡ false
unfolding listed chosen joined
below b n [] h = refl
below b n (false ∷ marks) h = ap (λ (l : List ℕ). listed l n) (from_more b false marks) ∙ below (suc b) n marks (omega arith)
below b n (true ∷ marks) h =
    ap (λ (l : List ℕ). listed l n) (from_more b true marks) ∙ ap₂ ◌||◌ (ne_eqb b n (λ e. omega (arith, e, h))) (below (suc b) n marks (omega arith))

marked : (b : ℕ) (marks : List Bool) (j : ℕ) → listed (from b marks) (j + b) ≡ get_or marks j false
unfolding listed chosen joined
marked b [] zero = refl
marked b [] (suc j) = refl
marked b (false ∷ marks) zero = ap (λ (l : List ℕ). listed l (0 + b)) (from_more b false marks) ∙ below (suc b) (0 + b) marks (omega arith)
marked b (true ∷ marks) zero = ap (λ (l : List ℕ). listed l (0 + b)) (from_more b true marks) ∙ ap (λ (t : Bool). t || listed (from (suc b) marks) (0 + b)) (eq-eqb b (0 + b) (omega arith))
marked b (false ∷ marks) (suc j) =
    let z : suc j + b ≡ j + suc b = omega arith in
    ap (λ (l : List ℕ). listed l (suc j + b)) (from_more b false marks) ∙ ap (listed (from (suc b) marks)) z ∙ marked (suc b) marks j
marked b (true ∷ marks) (suc j) =
    let z : suc j + b ≡ j + suc b = omega arith in
    ap (λ (l : List ℕ). listed l (suc j + b)) (from_more b true marks)
    ∙ ap (λ (t : Bool). t || listed (from (suc b) marks) (suc j + b)) (ne_eqb b (suc j + b) (λ e. omega (arith, e)))
    ∙ ap (listed (from (suc b) marks)) z
    ∙ marked (suc b) marks j

-- a number is on the list that marks stand for exactly if its mark is set
pub numbers_listed : (marks : List Bool) (j : ℕ) → listed (numbers_of_lem marks) (suc j) ≡ get_or marks j false
numbers_listed marks j = let z : suc j ≡ j + 1 = omega arith in ap (listed (numbers_of_lem marks)) z ∙ marked 1 marks j

-- ---- some number is on the list exactly if some mark is set

any_from : (b : ℕ) (marks : List Bool) → list_any (λ (mark : Bool). beq mark true) marks ≡ ltb 0 (length (from b marks))
unfolding chosen joined
any_from b [] = refl
any_from b (false ∷ marks) = any_from (suc b) marks ∙ sym (ap (λ (l : List ℕ). ltb 0 (length l)) (from_more b false marks))
any_from b (true ∷ marks) = sym (ap (λ (l : List ℕ). ltb 0 (length l)) (from_more b true marks) ∙ lt-ltb 0 (length (b ∷ from (suc b) marks)) (omega arith))

-- a mark is set exactly if there is a number on the list
pub marked_any : (marks : List Bool) → list_any (λ (mark : Bool). beq mark true) marks ≡ ltb 0 (length (numbers_of_lem marks))
marked_any marks = any_from 1 marks
