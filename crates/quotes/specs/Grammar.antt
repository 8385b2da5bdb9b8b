-- E11. "Each price may be a pair `low` and `high`, both 1..1000000; a single price is a band with equal ends."
use Rattle.std.specs.Prelude.{ℕ, Bool, true, false, ◌||◌, List, [], ◌∷◌, leb, Option, Some, None}
use Rattle.lines.specs.Parser.{Parser, ◌>>=◌, return, row, optional, checked}
use Rattle.model.specs.Limits.{dearest}

-- a price as it is quoted: a single one, or a pair of its low end and its high end
pub data Quote : Type 0 where
  single : ℕ → Quote
  pair : ℕ → ℕ → Quote

-- the ends of its band
abbrev pub high_end : Quote → ℕ
high_end (single p) = p
high_end (pair l h) = h

-- for a single price the same number
abbrev pub low_end : Quote → ℕ
low_end (single p) = p
low_end (pair l h) = l

-- whether it has a `low` line; a pair of equal ends has one
abbrev pub is_pair : Quote → Bool
is_pair (single p) = false
is_pair (pair l h) = true

-- one of these has
unfoldable pub any_pair : List Quote → Bool
any_pair [] = false
any_pair (q ∷ qs) = is_pair q || any_pair qs

-- the rule of a high end: at least the low one
abbrev pub at_least : ℕ → ℕ → Bool
at_least l h = leb l h

-- "Errors: 13 for low above high, on the `high` line after 3."
unfoldable pub unless_low : Option ℕ → Parser Quote
unless_low None = do
  p ← row "price=" 1 dearest
  return (single p)
unless_low (Some l) = do
  h ← checked 13 (at_least l) (row "high=" 1 dearest)
  return (pair l h)

-- the lines of a price: a pair is told by the key of its first line
unfoldable pub quote : Parser Quote
quote = do
  l ← optional "low=" 1 dearest
  unless_low l
