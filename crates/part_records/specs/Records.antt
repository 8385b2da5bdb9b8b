-- The record at a place of a list of parts. "A part has a life L and a first life R": the record holds both, and the part's prices.
use Rattle.std.specs.Prelude.{ℕ, List, get_or}
use Rattle.jobs.specs.declared.Part.{Part}
use Rattle.jobs.specs.Views.{blank_part_lem}

-- the record of part number i + 1
abbrev pub record_at : List Part → ℕ → Part
record_at parts i = get_or parts i blank_part_lem
