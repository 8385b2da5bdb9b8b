-- What is known of accepted lines of removal.
use Rattle.std.specs.Prelude.{ℕ, ◌≤◌, length, Option, Some, None}
use Rattle.model.specs.Limits.{dearest, most_inside}
use Rattle.jobs.specs.Valid.{ValidHolders}
use Rattle.covers.specs.Grammar.{Cover}

-- the lines of part k of m
pub record ValidCover (m k : ℕ) (c : Cover) : Type 0 where
  pub removal : c.removal ≤ dearest
  pub few : length c.holders ≤ most_inside
  pub holders : ValidHolders m k 0 c.holders

-- where they stand
abbrev pub ValidLines : ℕ → ℕ → Option Cover → Type 0
ValidLines m k None = Unit {0}
ValidLines m k (Some c) = ValidCover m k c
