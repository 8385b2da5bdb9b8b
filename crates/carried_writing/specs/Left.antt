-- What is written of an old job's text, by the step and what is left of each part: with the log's own lives it is the new job's text (`carried_text`).
use Rattle.std.specs.Prelude.{ℕ, ◌-◌, List, [], ◌∷◌, map, length, get_or, drop, None}
use Rattle.price_rules.specs.Grammar.{by_list}
use Rattle.part_lines.specs.Grammar.{PartText}
use Rattle.job_grammar.specs.Grammar.{JobText, idle_in}
use Rattle.job_grammar.specs.Optionals.{idle_lines}
use Rattle.carry.specs.Carry.{passed, later, renumbered}
use Rattle.job_grammar.specs.Reading.{meant_job}
use Rattle.carry_texts.specs.Carried.{quoted}

-- a part's lines with this left, and with its prices at the openings that are left when k of n are past
abbrev pub part_left : ℕ → ℕ → ℕ → PartText → PartText
part_left n k left p = record { life = p.life; left = left; cover = p.cover; prices = by_list (drop k (quoted n p.prices)) }

-- those of all parts, one after the other with its left
unfoldable pub parts_left : ℕ → ℕ → List ℕ → List PartText → List PartText
parts_left n k lefts [] = []
parts_left n k lefts (p ∷ ps) = part_left n k (get_or lefts 0 0) p ∷ parts_left n k (drop 1 lefts) ps

-- the text behind a step
abbrev pub text_left : JobText → ℕ → List ℕ → JobText
text_left t step lefts = record {
  horizon = t.horizon - step;
  idles = idle_lines (later step (idle_in t.idles));
  walk = None;
  openings = map (renumbered step) (drop (passed (meant_job t) step) t.openings);
  parts = parts_left (length t.openings) (passed (meant_job t) step) lefts t.parts;
}
