-- E3.2. A number's last digits, zeros in front: what is left to write where some digits are written.
use Rattle.std.specs.Prelude.{ℕ, zero, suc, ◌+◌, ◌/◌, ◌%◌, List, [], ◌∷◌, ◌++◌}

-- the last k digits of v
unfoldable pub padded : ℕ → ℕ → List ℕ
padded zero v = []
padded (suc k) v = padded k (v / 10) ++ (48 + v % 10) ∷ []
