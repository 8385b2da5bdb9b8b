-- The lines that say what a part's record of removal holds; the count is the list's length.
use Rattle.std.specs.Prelude.{ℕ, List, ◌++◌, length}
use Rattle.lines.specs.Text.{line_of, texts}
use Rattle.covers.specs.Grammar.{Cover}

-- E7.2. the lines `removal` and `inside`, and a line `holder` for each holder
unfoldable pub cover_text : Cover → List ℕ
cover_text c = line_of "removal=" c.removal ++ line_of "inside=" (length c.holders) ++ texts (line_of "holder=") c.holders
