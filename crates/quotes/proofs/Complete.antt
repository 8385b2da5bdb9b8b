-- A valid price, written, is read back as exactly what it says (`quote_complete`). By the grammar's lines, one after the other.
use Prim.Native.Nat.{ℕ}
use mathlib.Core.Path.{◌≡◌, refl, ap, ◌∙◌}
use mathlib.Core.Bool.{false}
use mathlib.Core.List.{List, ◌++◌, append_assoc}
use native.Mathlib.Omega.{arith}
use borrow.Author.Tests.{le-leb}
use Rattle.lines.specs.Line.{starts_with}
use Rattle.lines.specs.Text.{bytes, line, line_of}
use Rattle.lines.specs.Parser.{good, return, row, optional, checked}
use Rattle.lines.proofs.Parsing.{bind_good, optional_missing}
use Rattle.lines.proofs.Complete.{row_complete, optional_present, checked_complete}
use Rattle.quotes.specs.Grammar.{Quote, single, pair, at_least, quote, unless_low}
use Rattle.quotes.specs.Rendering.{quote_text}
use Rattle.quotes.specs.Valid.{ValidQuote}

-- a single price's line is no `low`
no_low : (p : ℕ) (s : List ℕ) → starts_with (bytes "low=") (line_of "price=" p ++ s) ≡ false
unfolding starts_with line bytes
no_low p s = refl

-- the text of a valid quote is read as this quote
pub quote_complete : (q : Quote) → ValidQuote q → (s : List ℕ) (l : ℕ) → (l' : ℕ) × (quote (quote_text q ++ s) l ≡ good q s l')
unfolding quote unless_low return quote_text
quote_complete (single p) v s l =
    let a = row_complete (bytes "price=") 1 1000000 (omega arith) p v.high s l in
    (a.0, bind_good (optional "low=" 1 1000000) _ (optional_missing _ 1 1000000 _ l (no_low p s)) ∙ bind_good (row "price=" 1 1000000) _ a.1)
quote_complete (pair m h) v s l =
    let b = line_of "high=" h in
    let a = optional_present (bytes "low=") 1 1000000 (omega arith) m v.low (b ++ s) l in
    let c = checked_complete 13 (at_least m) (row "high=" 1 1000000) (line_of "high=") _ (row_complete _ 1 1000000 (omega arith)) h (v.high, le-leb m h v.ordered) s a.0 in (
      c.0,
      ap (λ (x : List ℕ). quote x l) (append_assoc (line_of "low=" m) b s) ∙ bind_good (optional "low=" 1 1000000) _ a.1 ∙ bind_good (checked 13 (at_least m) (row "high=" 1 1000000)) _ c.1,
    )
