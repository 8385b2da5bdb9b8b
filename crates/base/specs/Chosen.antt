-- What a test chooses of numbers that are counted up, and the numbers that a row of marks stands for.
use Rattle.std.specs.Prelude.{ℕ, ◌+◌, List, [], ◌∷◌, Bool, false, cond, length, get_or}
use Rattle.base.specs.Joined.{joined}

-- those of f 0, f 1, .. f (n - 1) whose number passes a test, in order
unfoldable pub chosen : {A : Type 0} → (ℕ → Bool) → (ℕ → A) → ℕ → List A
chosen test f n = joined (λ i. cond (test i) (f i ∷ []) []) n

-- a set of numbers from 1 on as marks, mark i for number i + 1: the numbers, in order
abbrev pub numbers_of_lem : List Bool → List ℕ
numbers_of_lem marks = chosen (λ i. get_or marks i false) (λ i. i + 1) (length marks)
