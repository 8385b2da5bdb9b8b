-- The lines that say a quoted price.
use Rattle.std.specs.Prelude.{ℕ, List, ◌++◌}
use Rattle.lines.specs.Text.{line_of}
use Rattle.quotes.specs.Grammar.{Quote, single, pair}

-- one line, or those of the two ends
unfoldable pub quote_text : Quote → List ℕ
quote_text (single p) = line_of "price=" p
quote_text (pair l h) = line_of "low=" l ++ line_of "high=" h
