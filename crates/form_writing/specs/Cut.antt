-- The text that the writer makes of a form's lists, to be read: the form's text, but for what a count that is out of its range counts. That is never read.
use Rattle.std.specs.Prelude.{ℕ, Bool, true, ◌&&◌, cond, List, [], ◌++◌, leb, length}
use Prim.Native.String.{String}
use Rattle.lines.specs.Text.{line_of, texts, optional_text}
use Rattle.model.specs.Limits.{last_step, most_openings, most_parts}
use Rattle.job_grammar.specs.Rendering.{opening_text}
use Rattle.job_grammar.specs.Optionals.{idle_lines}
use Rattle.part_writing.specs.Cut.{part_cut_lem}
use Rattle.form_facts.specs.Facts.{PartLists, paired, parts_of, fees_agree, parts_agree_lem, count_of}

-- the line of a count, and what it counts where it is in its range and the lists agree
unfoldable pub counted_cut : String → ℕ → Bool → ℕ → List ℕ → List ℕ
counted_cut key most agree n t = line_of key (count_of most agree n) ++ cond (leb n most && agree) t []

-- the number of idle steps and the steps
unfoldable pub idles_cut : List ℕ → List ℕ
idles_cut is = counted_cut "idles=" last_step true (length is) (texts (line_of "idle=") is)

-- the number of parts and the parts, with n openings
unfoldable pub parts_cut : ℕ → PartLists → List ℕ
parts_cut n x = counted_cut "parts=" most_parts (parts_agree_lem n x) (length x.lives) (texts part_cut_lem (parts_of n x))

-- what follows the number of openings
unfoldable pub body_cut : List ℕ → List ℕ → PartLists → List ℕ
body_cut os fs x = texts opening_text (paired os fs) ++ parts_cut (length os) x

-- from the `openings` line on
unfoldable pub rest_cut : List ℕ → List ℕ → PartLists → List ℕ
rest_cut os fs x = counted_cut "openings=" most_openings (fees_agree os fs) (length os) (body_cut os fs x)

-- the whole
unfoldable pub form_cut : ℕ → List ℕ → List ℕ → List ℕ → PartLists → List ℕ
form_cut h is os fs x = line_of "horizon=" h ++ optional_text idles_cut (idle_lines is) ++ rest_cut os fs x

-- the most bytes that it has
abbrev pub longest_cut : ℕ
longest_cut = 45257
