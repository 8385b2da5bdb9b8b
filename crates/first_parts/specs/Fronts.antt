-- The first part of lists that agree, and the lists behind it.
use Rattle.std.specs.Prelude.{ℕ, ◌≤◌, ◌≡◌, cond, length, get_or, take, drop, eqb, None, Some}
use Rattle.base.specs.Each.{All}
use Rattle.price_rules.specs.Rule.{Rule}
use Rattle.price_rules.specs.Grammar.{by_list, by_rule_lem}
use Rattle.part_lines.specs.Grammar.{PartText}
use Rattle.model.specs.Limits.{most_openings}
use Rattle.form_facts.specs.Facts.{PartLists, quotes_in, sum_of}

-- how many holders the first part has
abbrev pub inside_first : PartLists → ℕ
inside_first x = cond (eqb (get_or x.covered 0 0) 1) (get_or x.insides 0 0) 0

-- how many prices of the list it has, with n openings
abbrev pub listed_first : ℕ → PartLists → ℕ
listed_first n x = cond (eqb (get_or x.ruled 0 0) 1) 0 n

-- how many of these are pairs
abbrev pub pairs_first : ℕ → PartLists → ℕ
pairs_first n x = sum_of (take (listed_first n x) x.banded)

-- the first rule
abbrev pub rule_first : PartLists → Rule
rule_first x = record { base = get_or x.bases 0 0; drop = get_or x.drops 0 0; least = get_or x.leasts 0 0 }

-- the first part, with n openings
abbrev pub first_part : ℕ → PartLists → PartText
first_part n x = record {
  life = get_or x.lives 0 0;
  left = get_or x.lefts 0 0;
  cover = cond (eqb (get_or x.covered 0 0) 1) (Some (record { removal = get_or x.removals 0 0; holders = take (inside_first x) x.holders })) None;
  prices = cond (eqb (get_or x.ruled 0 0) 1) (by_rule_lem (rule_first x)) (by_list (take (listed_first n x) (quotes_in x)));
}

-- the lists behind it
abbrev pub behind_first : ℕ → PartLists → PartLists
behind_first n x = record {
  lives = drop 1 x.lives;
  lefts = drop 1 x.lefts;
  covered = drop 1 x.covered;
  removals = drop (get_or x.covered 0 0) x.removals;
  insides = drop (get_or x.covered 0 0) x.insides;
  holders = drop (inside_first x) x.holders;
  ruled = drop 1 x.ruled;
  bases = drop (get_or x.ruled 0 0) x.bases;
  drops = drop (get_or x.ruled 0 0) x.drops;
  leasts = drop (get_or x.ruled 0 0) x.leasts;
  banded = drop (listed_first n x) x.banded;
  lows = drop (pairs_first n x) x.lows;
  prices = drop (listed_first n x) x.prices;
}

-- what lists with a first part have of its lines of removal
pub record FirstCover (x : PartLists) : Type 0 where
  -- its mark of them is there, and 0 or 1
  pub covered : 1 ≤ length x.covered
  pub mark : get_or x.covered 0 0 ≤ 1
  -- a removal and a number of holders, if they stand
  pub removal : get_or x.covered 0 0 ≤ length x.removals
  pub inside : get_or x.covered 0 0 ≤ length x.insides
  -- as many holders as they say
  pub holders : inside_first x ≤ length x.holders

-- what they have of its prices, with n openings
pub record FirstPrices (n : ℕ) (x : PartLists) : Type 0 where
  -- its mark of a rule is there, and 0 or 1
  pub ruled : 1 ≤ length x.ruled
  pub rule_mark : get_or x.ruled 0 0 ≤ 1
  -- a base, a drop and a least, if it has a rule
  pub base : get_or x.ruled 0 0 ≤ length x.bases
  pub drop : get_or x.ruled 0 0 ≤ length x.drops
  pub least : get_or x.ruled 0 0 ≤ length x.leasts
  -- as many prices as are listed for it, at most 64
  pub prices : listed_first n x ≤ length x.prices
  pub few : listed_first n x ≤ most_openings
  -- a mark for each price of the list, 0 or 1, and a low end for each of its pairs
  pub banded : length x.banded ≡ length x.prices
  pub band_marks : All (λ (z : ℕ). z ≤ 1) x.banded
  pub lows : pairs_first n x ≤ length x.lows
