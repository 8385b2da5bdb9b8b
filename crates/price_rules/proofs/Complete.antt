-- Valid prices, written, are read back as exactly what they say (`rule_complete`, `prices_complete`); a list of prices begins with no rule (`rule_missing`, `list_next`). By the grammar's lines, one after the other.
use Rattle.std.specs.Prelude.{Some, None}
use Prim.Native.Nat.{ℕ}
use mathlib.Core.Path.{◌≡◌, refl, sym, ap, ◌∙◌}
use mathlib.Core.List.{List, [], ◌∷◌, ◌++◌, append_assoc}
use mathlib.Core.Bool.{false}
use native.Mathlib.Omega.{arith}
use Rattle.lines.specs.Line.{starts_with}
use Rattle.lines.specs.Text.{bytes, line, line_of, texts}
use Rattle.lines.specs.Parser.{good, return, row, optional, if_present, times}
use Rattle.lines.proofs.Parsing.{bind_good, optional_missing}
use Rattle.lines.proofs.Complete.{row_complete, optional_present, chain_complete}
use Rattle.quotes.specs.Grammar.{Quote, single, pair, quote}
use Rattle.quotes.specs.Rendering.{quote_text}
use Rattle.quotes.specs.Valid.{ValidQuote}
use Rattle.quotes.proofs.Complete.{quote_complete}
use Rattle.price_rules.specs.Rule.{Rule}
use Rattle.price_rules.specs.Grammar.{after_base, rule, Prices, by_list, by_rule_lem, unless_ruled, prices}
use Rattle.price_rules.specs.Rendering.{rule_text, prices_text}
use Rattle.price_rules.specs.Valid.{ValidRule, ValidPrices}
use Rattle.base.proofs.Lists.{each_chained}

-- where a text does not begin with their key, there is no rule
pub rule_missing : (s : List ℕ) (l : ℕ) → starts_with (bytes "base=") s ≡ false → rule s l ≡ good None s l
unfolding rule if_present return
rule_missing s l e = bind_good (optional "base=" 1 1000000) _ (optional_missing _ 1 1000000 s l e)

-- a valid rule, with anything behind it
pub rule_complete : (r : Rule) → ValidRule r → (s : List ℕ) (l : ℕ) → (l' : ℕ) × (rule (rule_text r ++ s) l ≡ good (Some r) s l')
unfolding rule after_base if_present return rule_text
rule_complete r v s l =
    let d = line_of "drop=" r.drop in
    let m = line_of "least=" r.least in
    let a = optional_present (bytes "base=") 1 1000000 (omega arith) r.base (v.base_low, v.base_high) (d ++ (m ++ s)) l in
    let b = row_complete (bytes "drop=") 0 1000000 (omega arith) r.drop (omega arith, v.drop) (m ++ s) a.0 in
    let c = row_complete (bytes "least=") 1 1000000 (omega arith) r.least (v.least_low, v.least_high) s b.0 in (
      c.0,
      ap (λ (x : List ℕ). rule x l) (append_assoc (line_of "base=" r.base ++ d) m s ∙ append_assoc (line_of "base=" r.base) d (m ++ s))
          ∙ bind_good (optional "base=" 1 1000000) _ a.1
          ∙ bind_good (after_base r.base) _ (bind_good (row "drop=" 0 1000000) _ b.1 ∙ bind_good (row "least=" 1 1000000) _ c.1),
    )

-- where there is no rule, prices are next, or what follows where there are none
pub list_next : (qs : List Quote) (s : List ℕ) → (qs ≡ [] → starts_with (bytes "base=") s ≡ false) → starts_with (bytes "base=") (texts quote_text qs ++ s) ≡ false
unfolding starts_with line bytes quote_text
list_next [] s e = e refl
list_next (single p ∷ qs) s e = refl
list_next (pair l h ∷ qs) s e = refl

-- the text of valid prices is read as these prices, if no rule follows where none are listed
pub prices_complete : (n : ℕ) (p : Prices) → ValidPrices n p → (s : List ℕ) (l : ℕ) → (p ≡ by_list [] → starts_with (bytes "base=") s ≡ false) → (l' : ℕ) × (prices n (prices_text p ++ s) l ≡ good p s l')
unfolding prices unless_ruled times return
prices_complete n (by_list qs) v s l e =
    let ts = texts quote_text qs in
    let a = rule_missing (ts ++ s) l (list_next qs s (λ h. e (ap by_list h))) in
    let c = chain_complete (λ _. quote) (λ _ _. 0) quote_text (λ _. ValidQuote) (λ _. quote_complete) 0 qs (each_chained ValidQuote 0 qs v.1) s l in
    (c.0, bind_good rule _ a ∙ bind_good (times n quote) _ (ap (λ (m : ℕ). times m quote (ts ++ s) l) (sym v.0) ∙ c.1))
prices_complete n (by_rule_lem r) v s l e = let a = rule_complete r v s l in (a.0, bind_good rule _ a.1)
