-- What is known of a part's accepted lines.
use Rattle.std.specs.Prelude.{ℕ}
use Rattle.jobs.specs.Valid.{ValidHolders, ValidPart}
use Rattle.price_rules.specs.Valid.{ValidPrices}
use Rattle.part_lines.specs.Grammar.{PartText, meant_part}

-- E8.1. what is known of lines, with n openings, that what they mean does not say: a rule's numbers are in their ranges
abbrev pub Spelt : ℕ → PartText → Type 0
Spelt n p = ValidPrices n p.prices

-- part k of m, with n openings
abbrev pub KnownPart : ℕ → ℕ → ℕ → PartText → Type 0
KnownPart m n k p = ValidPart n (meant_part n p) × ValidHolders m k 0 (meant_part n p).holders × Spelt n p
