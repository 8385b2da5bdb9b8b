-- A price's lines have at most 25 bytes, a pair's (`quote_short`). By the digits that a number can have.
use Prim.Native.Nat.{ℕ, ◌≤◌}
use mathlib.Core.Path.{◌≡◌, refl}
use native.Mathlib.Omega.{arith}
use lib.ListN.{length, length-append}
use Rattle.lines.specs.Text.{bytes, line_of}
use Rattle.lines.proofs.Writing.{line_short}
use Rattle.quotes.specs.Grammar.{Quote, single, pair}
use Rattle.quotes.specs.Rendering.{quote_text}
use Rattle.quotes.specs.Valid.{ValidQuote}

-- the most bytes of a price's lines
abbrev pub most_quote : ℕ
most_quote = 25

key_length : (length (bytes "price=") ≡ 6) × (length (bytes "low=") ≡ 4) × (length (bytes "high=") ≡ 5)
unfolding bytes
key_length = (refl, refl, refl)

-- a quote's lines have at most `most_quote` bytes
pub quote_short : (q : Quote) → ValidQuote q → length (quote_text q) ≤ most_quote
unfolding quote_text
quote_short (single p) v = omega (arith, key_length, line_short (bytes "price=") 6 p (omega (arith, v.high)))
quote_short (pair l h) v = rw (length-append (line_of "low=" l)) (omega (arith, key_length, line_short (bytes "low=") 6 l (omega (arith, v.low)), line_short (bytes "high=") 6 h (omega (arith, v.high))))
