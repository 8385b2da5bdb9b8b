-- The lines that say what a part's record holds.
use Rattle.std.specs.Prelude.{ℕ, List, ◌++◌}
use Rattle.lines.specs.Text.{line_of, optional_text}
use Rattle.covers.specs.Rendering.{cover_text}
use Rattle.price_rules.specs.Rendering.{prices_text}
use Rattle.part_lines.specs.Grammar.{PartText}

-- X3, E7.2, E8.1. a part's lines; those of removal where they stand, and the prices or their rule
unfoldable pub part_text : PartText → List ℕ
part_text p = line_of "life=" p.life ++ line_of "left=" p.left ++ optional_text cover_text p.cover ++ prices_text p.prices
