-- X3. A part's lines: "`life` 1..1000, `left` 1..1000, then one `price` 1..1000000 per opening." E12.4. "From here on `left` may be 0".
-- E7.2. "After each `left` a job may have `removal` 0..1000000, `inside` 0..15 and that many `holder` lines".
-- E11. "Each price may be a pair `low` and `high`". E8.1. "In place of its `price` lines a part may have `base` 1..1000000, `drop` 0..1000000 and `least` 1..1000000."
use Rattle.std.specs.Prelude.{ℕ, suc, Bool, false, ◌||◌, List, [], ◌∷◌, Option}
use Rattle.lines.specs.Parser.{Parser, ◌>>=◌, return, row, checked, up_to}
use Rattle.model.specs.Model.{Part}
use Rattle.model.specs.Limits.{longest_life}
use Rattle.covers.specs.Grammar.{Cover, cover}
use Rattle.covers.specs.Views.{meant_cover}
use Rattle.price_rules.specs.Grammar.{Prices, prices, meant_prices, low_prices_lem, banded_prices}

-- what a part's lines say; those of removal may be missing
pub record PartText : Type 0 where
  pub life : ℕ
  pub left : ℕ
  pub cover : Option Cover
  pub prices : Prices

-- with n openings. E7.2. "a part without them has removal 0 and no holders"; E8.2. a rule means a price for each opening; E11. pairs mean their high ends
abbrev pub meant_part : ℕ → PartText → Part
meant_part n p = record { life = p.life; left = p.left; removal = (meant_cover p.cover).removal; holders = (meant_cover p.cover).holders; prices = meant_prices n p.prices }

-- E11. the same part at the low ends of its prices
abbrev pub low_part_lem : ℕ → PartText → Part
low_part_lem n p = record { life = p.life; left = p.left; removal = (meant_cover p.cover).removal; holders = (meant_cover p.cover).holders; prices = low_prices_lem n p.prices }

-- E11. whether a `low` line stands among the lines of one of these parts
unfoldable pub any_banded : List PartText → Bool
any_banded [] = false
any_banded (p ∷ ps) = banded_prices p.prices || any_banded ps

-- what follows the life l of part k of m, and what is left of it, r: the lines of removal, and a price for each of n openings or a rule
unfoldable pub after_left : ℕ → ℕ → ℕ → ℕ → ℕ → Parser PartText
after_left m n k l r = do
  c ← cover m k
  ps ← prices n
  return (record { life = l; left = r; cover = c; prices = ps })

-- part k of m; R5: number 5 is "`left` greater than `life`, on the `left` line"
unfoldable pub part : ℕ → ℕ → ℕ → Parser PartText
part m n k = do
  l ← row "life=" 1 longest_life
  r ← checked 5 (up_to l) (row "left=" 0 longest_life)
  after_left m n k l r

-- the number after
abbrev pub following : {A : Type 0} → ℕ → A → ℕ
following k _ = suc k
