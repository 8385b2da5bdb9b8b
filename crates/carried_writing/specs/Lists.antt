-- Lists of numbers as structs hold them: a price's mark and low end.
use Rattle.std.specs.Prelude.{ℕ, ◌≡◌, List, [], ◌∷◌, map, take, replicate, Option, None, Some}
use Rattle.lines.specs.Text.{texts}
use Rattle.model.specs.Limits.{most_openings}
use Rattle.price_rules.specs.declared.Rule.{Rule}
use Rattle.part_lines.specs.declared.said.PartSaid.{PartSaid}
use Rattle.carried_writing.specs.declared.numbers.Numbers.{Numbers}
use Rattle.carried_writing.specs.declared.lists.Pairs.{Pairs}

-- the list that a struct holds
abbrev pub held : Numbers → List ℕ
held n = take n.count n.at

-- whether a price with this low end is a pair, 1 or 0
abbrev pub pair_mark : Option ℕ → ℕ
pair_mark None = 0
pair_mark (Some l) = 1

-- its low end, where it is one
abbrev pub low_in : Option ℕ → List ℕ
low_in None = []
low_in (Some l) = l ∷ []

-- a mark for each of these prices, and the low ends of those that are pairs
pub record Paired (lows : List (Option ℕ)) (p : Pairs) : Type 0 where
  pub marks : held p.marks ≡ map pair_mark lows
  pub ends : held p.ends ≡ texts low_in lows

-- the low ends of prices that are quoted, and of those by a rule, which gives single prices only
abbrev pub lows_unless : Option Rule → List (Option ℕ) → List (Option ℕ)
lows_unless None ls = ls
lows_unless (Some r) ls = replicate most_openings None

-- those of the prices that a part's lines say
abbrev pub lows_said : PartSaid → List (Option ℕ)
lows_said s = lows_unless s.rule s.lows
