-- The text that says what a job text's record holds.
use Rattle.std.specs.Prelude.{ℕ, List, ◌++◌, length}
use Rattle.lines.specs.Text.{line_of, texts, optional_text}
use Rattle.model.specs.Model.{Opening}
use Rattle.part_lines.specs.Rendering.{part_text}
use Rattle.job_grammar.specs.Grammar.{JobText}

-- the number of idle steps and the steps
unfoldable pub idles_text : List ℕ → List ℕ
idles_text is = line_of "idles=" (length is) ++ texts (line_of "idle=") is

-- X3. the pair of lines of an opening
unfoldable pub opening_text : Opening → List ℕ
opening_text o = line_of "opening=" o.step ++ line_of "fee=" o.fee

-- what follows the number of openings
unfoldable pub body_text : JobText → List ℕ
body_text t = texts opening_text t.openings ++ line_of "parts=" (length t.parts) ++ texts part_text t.parts

-- the lines of a job in the text's order, that of the walk number where it stands; the counts are the lists' lengths
unfoldable pub job_text_lem : JobText → List ℕ
job_text_lem t = line_of "horizon=" t.horizon ++ optional_text idles_text t.idles ++ optional_text (line_of "walk=") t.walk ++ line_of "openings=" (length t.openings) ++ body_text t
