-- How long the lines of a part's prices are: a rule's at most 40 bytes (`rule_short`), which one of them has (`rule_longest`); all at most 1,600, what 64 pairs take (`prices_short`). By the lengths of the lines.
use Prim.Native.Nat.{ℕ, ◌*◌, ◌≤◌}
use mathlib.Core.Path.{◌≡◌, refl}
use mathlib.Core.List.{List, [], ◌∷◌, ◌++◌}
use native.Mathlib.Omega.{arith}
use lib.ListN.{length, length-append}
use Rattle.lines.specs.Text.{bytes, decimal_in, line, line_of, texts}
use Rattle.lines.proofs.Writing.{line_short}
use Rattle.base.specs.Each.{All}
use Rattle.quotes.specs.Grammar.{Quote}
use Rattle.quotes.specs.Rendering.{quote_text}
use Rattle.quotes.specs.Valid.{ValidQuote}
use Rattle.quotes.proofs.Lengths.{most_quote, quote_short}
use Rattle.price_rules.specs.Rule.{Rule}
use Rattle.price_rules.specs.Grammar.{Prices, by_list, by_rule_lem}
use Rattle.price_rules.specs.Rendering.{rule_text, prices_text}
use Rattle.price_rules.specs.Valid.{ValidRule, ValidPrices}

key_length : (length (bytes "base=") ≡ 5) × (length (bytes "drop=") ≡ 5) × (length (bytes "least=") ≡ 6)
unfolding bytes
key_length = (refl, refl, refl)

-- a rule's lines have at most 40 bytes
pub rule_short : (r : Rule) → ValidRule r → length (rule_text r) ≤ 40
unfolding rule_text
rule_short r v =
    rw (length-append (line_of "base=" r.base ++ line_of "drop=" r.drop), length-append (line_of "base=" r.base))
    (omega (
      arith,
      key_length,
      line_short (bytes "base=") 6 r.base (omega (arith, v.base_high)),
      line_short (bytes "drop=") 6 r.drop (omega (arith, v.drop)),
      line_short (bytes "least=") 6 r.least (omega (arith, v.least_high)),
    ))

-- the bound of a rule's lines is reached
pub rule_longest : length (rule_text (record { base = 1000000; drop = 1000000; least = 1000000 })) ≡ 40
unfolding rule_text line bytes decimal_in
rule_longest = refl

list_short : (qs : List Quote) → All ValidQuote qs → length (texts quote_text qs) ≤ length qs * most_quote
list_short [] v = omega arith
list_short (q ∷ qs) v = rw (length-append (quote_text q)) (omega (arith, quote_short q v.0, list_short qs v.1))

-- so no job text is longer for a rule
pub prices_short : (n : ℕ) (p : Prices) → n ≤ 64 → ValidPrices n p → length (prices_text p) ≤ 1600
prices_short n (by_list qs) few v = omega (arith, list_short qs v.1, v.0)
prices_short n (by_rule_lem r) few v = omega (arith, rule_short r v)
