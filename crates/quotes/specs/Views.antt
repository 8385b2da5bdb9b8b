-- The code's structs in the terms of the grammar.
use Rattle.std.specs.Prelude.{ℕ, List, [], ◌∷◌, get_or, drop, take, Option, Some, None}
use Rattle.quotes.specs.Grammar as grammar
use Rattle.quotes.specs.Grammar.{single, pair}
use Rattle.quotes.specs.declared.Quote.{Quote}
use Rattle.quotes.specs.declared.Quotes.{Quotes}

-- a pair of these ends, or the single price that is the high one
unfoldable pub quote_of : Option ℕ → ℕ → grammar.Quote
quote_of (Some l) h = pair l h
quote_of None h = single h

-- prices by their low ends, where they are pairs, and their high ends
unfoldable pub quotes_of : List (Option ℕ) → List ℕ → List grammar.Quote
quotes_of ls [] = []
quotes_of ls (h ∷ hs) = quote_of (get_or ls 0 None) h ∷ quotes_of (drop 1 ls) hs

-- the low end of a price, which is the high one where it is single
abbrev pub low_of : Option ℕ → ℕ → ℕ
low_of (Some l) h = l
low_of None h = h

-- their low ends
unfoldable pub lows_of : List (Option ℕ) → List ℕ → List ℕ
lows_of ls [] = []
lows_of ls (h ∷ hs) = low_of (get_or ls 0 None) h ∷ lows_of (drop 1 ls) hs

-- the price that a struct holds
abbrev pub quote_told : Quote → grammar.Quote
quote_told q = quote_of q.low q.high

-- the first n of the prices that a struct holds
abbrev pub quotes_told : ℕ → Quotes → List grammar.Quote
quotes_told n q = quotes_of q.lows (take n q.highs)
