-- The sections' structs in the terms of the grammar.
use Rattle.std.specs.Prelude.{ℕ, ◌≡◌, List, map, get_or, take, Option}
use Rattle.model.specs.Model as model
use Rattle.part_lines.specs.Grammar.{PartText, meant_part}
use Rattle.part_lines.specs.Views.{blank_said, part_lines_lem, parts_lines, priced}
use Rattle.part_lines.specs.declared.said.PartSaid.{PartSaid}
use Rattle.jobs.specs.declared.Opening.{Opening}
use Rattle.jobs.specs.declared.Part.{Part}
use Rattle.jobs.specs.Views.{opening_of, blank_part_lem, part_of_lem}
use Rattle.job_grammar.specs.Optionals.{idle_lines}
use Rattle.job_sections.specs.declared.steps.Idles.{Idles}
use Rattle.job_sections.specs.declared.parts.Parts.{Parts}

-- the idle steps that were read
abbrev pub idles_of : Idles → List ℕ
idles_of r = take r.count r.idles

-- and what the lines say of them
abbrev pub idles_said : Idles → Option (List ℕ)
idles_said r = idle_lines (idles_of r)

-- the first n openings
abbrev pub openings_said : ℕ → List Opening → List model.Opening
openings_said n os = map opening_of (take n os)

-- what the lines of the first m parts say, with n openings
abbrev pub parts_said : ℕ → ℕ → Parts → List PartText
parts_said m n r = parts_lines (take m r.said) (map (part_of_lem n) (take m r.parts))

-- the part at each place, with the prices of its rule, is what its lines mean
abbrev pub Meant : ℕ → List PartSaid → List Part → Type 0
Meant n ss ps = (k : ℕ) → meant_part n (part_lines_lem (get_or ss k blank_said) (part_of_lem n (get_or ps k blank_part_lem))) ≡ priced n (get_or ss k blank_said) (part_of_lem n (get_or ps k blank_part_lem))
