-- The first lines of a text, for R20's "line by line, first bad line", and how many lines it ends.
use Rattle.std.specs.Prelude.{ℕ, zero, suc, ◌+◌, cond, List, [], ◌∷◌, true, false, eqb}

-- the first n lines of a text, each with the byte 10 that ends it, the last as far as the text goes
unfoldable pub first_lines : ℕ → List ℕ → List ℕ
first_lines zero s = []
first_lines (suc n) [] = []
first_lines (suc n) (b ∷ bs) = b ∷ elim (eqb b 10) [ true ↦ first_lines n bs | false ↦ first_lines (suc n) bs ]

-- how many bytes 10 a text has, each of which ends a line
unfoldable pub breaks : List ℕ → ℕ
breaks [] = 0
breaks (b ∷ bs) = cond (eqb b 10) 1 0 + breaks bs
