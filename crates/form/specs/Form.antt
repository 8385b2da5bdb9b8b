-- E2: "The writer takes the same facts as lists of numbers, in the text's order, and writes the job text [..]. The counts are the lists' lengths."
use Rattle.std.specs.Prelude.{ℕ, true, List, ◌++◌, length, None}
use Rattle.lines.specs.Text.{line_of, texts, optional_text}
use Rattle.lines.specs.Parser.{Outcome, finish, whole}
use Rattle.model.specs.Limits.{last_step, most_openings}
use Rattle.job_grammar.specs.Grammar.{JobText, job_lines}
use Rattle.job_grammar.specs.Optionals.{idle_lines}
use Rattle.job_grammar.specs.Rendering.{opening_text}
use Rattle.form_facts.specs.Facts.{PartLists, part_lists, paired, parts_of, fees_agree, count_of, counted_text}

-- the facts of a job text as lists of numbers; E10. the walk number is not among them
pub record Form : Type 0 where
  pub horizon : ℕ
  pub idles : List ℕ
  pub openings : List ℕ
  pub fees : List ℕ
  pub parts : PartLists

-- the form of a call's arguments; E7: `covered`, `removals`, `insides` and `holders` stand behind the lefts; E8: `ruled`, `bases`, `drops` and `leasts` behind those; E11: `banded` and `lows` before the prices
abbrev pub filled : ℕ → List ℕ → List ℕ → List ℕ → List ℕ → List ℕ → List ℕ → List ℕ → List ℕ → List ℕ → List ℕ → List ℕ → List ℕ → List ℕ → List ℕ → List ℕ → List ℕ → Form
filled h is os fs ls rs cs vs ns hs us bs ds ms zs ws ps = record { horizon = h; idles = is; openings = os; fees = fs; parts = part_lists ls rs cs vs ns hs us bs ds ms zs ws ps }

-- what a form states, "with no `idles` line if there are none"; E10. "The writer no longer writes" the `walk` line
abbrev pub stated : Form → JobText
stated f = record { horizon = f.horizon; idles = idle_lines f.idles; walk = None; openings = paired f.openings f.fees; parts = parts_of (length f.openings) f.parts }

-- the number of idle steps and the steps
unfoldable pub idle_count_text : List ℕ → List ℕ
idle_count_text is = line_of "idles=" (count_of last_step true (length is)) ++ texts (line_of "idle=") is

-- what follows the number of openings, and what follows the idle steps
unfoldable pub body_of : List ℕ → List ℕ → PartLists → List ℕ
body_of os fs x = texts opening_text (paired os fs) ++ counted_text (length os) x

-- from the `openings` line on; E2.2. the number of openings is out of its range where the fees are not as many
unfoldable pub from_openings : List ℕ → List ℕ → PartLists → List ℕ
from_openings os fs x = line_of "openings=" (count_of most_openings (fees_agree os fs) (length os)) ++ body_of os fs x

-- the text that the numbers of a form make
unfoldable pub form_text : Form → List ℕ
form_text f = line_of "horizon=" f.horizon ++ (optional_text idle_count_text (idle_lines f.idles) ++ from_openings f.openings f.fees f.parts)

-- what its lines say, or the first fault's number and line: "It gives 3, 4, 5 [..] for the same faults, with the line that would have held them", E7's 12 and E11's 13.
-- The text is read by its lines alone, with no limit to its length
unfoldable pub read_form : Form → Outcome JobText
read_form f = finish (whole job_lines (form_text f) 1)
