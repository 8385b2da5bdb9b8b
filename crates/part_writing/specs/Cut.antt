-- The text that the writer makes of one part of a form, to be read: the part's text, but for holders that are too many. Those are never read.
use Rattle.std.specs.Prelude.{ℕ, cond, List, [], ◌++◌, leb, length}
use Rattle.lines.specs.Text.{line_of, texts, optional_text}
use Rattle.model.specs.Limits.{most_inside}
use Rattle.covers.specs.Grammar.{Cover}
use Rattle.price_rules.specs.Rendering.{prices_text}
use Rattle.part_lines.specs.Grammar.{PartText}

-- the number of a part's holders, and the holders where they are not too many
unfoldable pub inside_cut : List ℕ → List ℕ
inside_cut hs = line_of "inside=" (length hs) ++ cond (leb (length hs) most_inside) (texts (line_of "holder=") hs) []

-- a part's lines of removal
unfoldable pub cover_cut : Cover → List ℕ
cover_cut c = line_of "removal=" c.removal ++ inside_cut c.holders

-- a part's lines; those of its prices, or of its rule
unfoldable pub part_cut_lem : PartText → List ℕ
part_cut_lem p = line_of "life=" p.life ++ line_of "left=" p.left ++ optional_text cover_cut p.cover ++ prices_text p.prices
