-- What holds of each of a list's values.
use Rattle.std.specs.Prelude.{List, [], ◌∷◌}

-- P holds of each
abbrev pub All : {A : Type 0} → (A → Type 0) → List A → Type 0
All P [] = Unit {0}
All P (x ∷ xs) = P x × All P xs

-- each of a chain's values, with the state that the one before left
abbrev pub Chained : {A S : Type 0} → (S → A → Type 0) → (S → A → S) → S → List A → Type 0
Chained P next prev [] = Unit {0}
Chained P next prev (x ∷ xs) = P prev x × Chained P next (next prev x) xs
