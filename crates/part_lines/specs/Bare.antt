-- A part that no lines of removal say anything of.
use Rattle.std.specs.Prelude.{◌≡◌, []}
use Rattle.base.specs.Chosen.{numbers_of_lem}
use Rattle.jobs.specs.declared.Part.{Part}

-- a part with removal 0 and no holders
abbrev pub Bare : Part → Type 0
Bare p = (p.removal ≡ 0) × (numbers_of_lem p.holders ≡ [])
