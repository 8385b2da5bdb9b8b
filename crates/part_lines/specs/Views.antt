-- The code's structs in the terms of the grammar.
use Rattle.std.specs.Prelude.{ℕ, ◌≤◌, ◌<◌, ◌≡◌, false, List, [], ◌∷◌, length, get_or, Option, Some, None}
use Rattle.model.specs.Model as model
use Rattle.jobs.specs.Views.{blank_part_lem, part_of_lem}
use Rattle.jobs.specs.declared.Part.{Part}
use Rattle.covers.specs.Views.{cover_there}
use Rattle.quotes.specs.Grammar.{Quote}
use Rattle.quotes.specs.Views.{quotes_of, quotes_told}
use Rattle.price_rules.specs.Rule as rule
use Rattle.price_rules.specs.Grammar.{Prices, by_list, by_rule_lem}
use Rattle.price_rules.specs.Views.{rule_of}
use Rattle.price_rules.specs.declared.Rule.{Rule}
use Rattle.part_lines.specs.Grammar.{PartText}
use Rattle.part_lines.specs.declared.said.PartSaid.{PartSaid}
use Rattle.part_lines.specs.declared.said.PartRead.{PartRead}
use Rattle.part_lines.specs.declared.PriceLines.{PriceLines}

-- what stands past the end of an array of what parts' lines say
abbrev pub blank_said : PartSaid
blank_said = record { covered = false; rule = None; lows = [] }

-- prices that stand by a rule, or in a list
abbrev pub prices_told : Option Rule → List Quote → Prices
prices_told (Some r) qs = by_rule_lem (rule_of r)
prices_told None qs = by_list qs

-- the prices that were read, with n openings
abbrev pub prices_read : ℕ → PriceLines → Prices
prices_read n p = prices_told p.rule (quotes_told n p.quotes)

-- what a part's lines say, besides what they mean
abbrev pub part_lines_lem : PartSaid → model.Part → PartText
part_lines_lem s p = record {
  life = p.life;
  left = p.left;
  cover = cover_there s.covered (record { removal = p.removal; holders = p.holders });
  prices = prices_told s.rule (quotes_of s.lows p.prices);
}

-- what the lines of a part say that was read, with n openings
abbrev pub part_told : ℕ → PartRead → PartText
part_told n r = part_lines_lem r.said (part_of_lem n r.part)

-- lines of which none is one of removal, and no rule
abbrev pub Unsaid : PartSaid → Type 0
Unsaid s = (s.covered ≡ false) × (s.rule ≡ None)

-- the lines of parts, one after the other
unfoldable pub parts_lines : List PartSaid → List model.Part → List PartText
parts_lines [] ps = []
parts_lines (s ∷ ss) [] = []
parts_lines (s ∷ ss) (p ∷ ps) = part_lines_lem s p ∷ parts_lines ss ps

-- E8.2. the prices of a rule at n openings, and where there is none these
abbrev pub ruled_prices : ℕ → Option Rule → List ℕ → List ℕ
ruled_prices n (Some r) ps = rule.rule_prices_lem (rule_of r) n
ruled_prices n None ps = ps

-- E8.2. a part with the prices of its rule at n openings, where it has one
abbrev pub priced : ℕ → PartSaid → model.Part → model.Part
priced n s p = record { life = p.life; left = p.left; removal = p.removal; holders = p.holders; prices = ruled_prices n s.rule p.prices }

-- each of the first m parts is changed as `step` says, which knows what its lines say; the others stay
pub record Changed (m : ℕ) (step : PartSaid → Part → Part → Type 0) (ss : List PartSaid) (before after : List Part) : Type 0 where
  pub size : length after ≡ length before
  pub done : (q : ℕ) → q < m → step (get_or ss q blank_said) (get_or before q blank_part_lem) (get_or after q blank_part_lem)
  pub rest : (q : ℕ) → m ≤ q → get_or after q blank_part_lem ≡ get_or before q blank_part_lem

-- E8.3. "A generator writes the table of prices": the first m of the parts have the prices of their rules at n openings, the others stay
pub record Tabled (m n : ℕ) (ss : List PartSaid) (before after : List Part) : Type 0 where
  pub size : length after ≡ length before
  pub done : (q : ℕ) → q < m → part_of_lem n (get_or after q blank_part_lem) ≡ priced n (get_or ss q blank_said) (part_of_lem n (get_or before q blank_part_lem))
  pub rest : (q : ℕ) → m ≤ q → get_or after q blank_part_lem ≡ get_or before q blank_part_lem
