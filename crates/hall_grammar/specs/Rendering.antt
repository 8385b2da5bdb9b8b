-- The text that says what a hall text's record holds.
use Rattle.std.specs.Prelude.{ℕ, List, ◌++◌, length}
use Rattle.lines.specs.Text.{line_of, texts}
use Rattle.job_grammar.specs.Rendering.{job_text_lem}
use Rattle.hall_grammar.specs.Grammar.{HallText}

-- E14.2. the lines of a hall in the text's order; `machines` is how many jobs there are
unfoldable pub hall_text : HallText → List ℕ
hall_text t = line_of "machines=" (length t.jobs) ++ line_of "call=" t.call ++ texts job_text_lem t.jobs
