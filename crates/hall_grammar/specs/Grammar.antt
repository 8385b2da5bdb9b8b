-- E14.2. The hall's lines: "`machines` 1..4, `call` 0..1000000, then the job texts whole", its lines counted through.
use Rattle.std.specs.Prelude.{ℕ, zero, suc, ◌+◌, Bool, true, false, ◌&&◌, List, [], ◌∷◌, ◌++◌, map, eqb, leb, length}
use Rattle.lines.specs.Parser.{Outcome, Parser, ◌>>=◌, return, row, checked, read_text}
use Rattle.model.specs.Model.{Job}
use Rattle.model.specs.Limits.{most_openings, most_parts}
use Rattle.job_grammar.specs.Grammar.{JobText, job_lines}
use Rattle.job_grammar.specs.Reading.{meant_job}
use Rattle.hall_model.specs.Hall.{Hall}
use Rattle.hall_model.specs.Limits.{most_lines, dearest_call, most_hall_bytes, parts_in, openings_in}

-- what a hall text says
pub record HallText : Type 0 where
  pub call : ℕ
  pub jobs : List JobText

-- the hall that it means
abbrev pub meant_hall : HallText → Hall
meant_hall t = record { call = t.call; jobs = map meant_job t.jobs }

-- ---- E14.10. "14 for a job whose horizon or idles differ from the first job's, or which takes the hall past 16 parts or 64 openings"

-- two lists of numbers are the same
unfoldable pub same_numbers : List ℕ → List ℕ → Bool
same_numbers [] [] = true
same_numbers [] (n ∷ ns) = false
same_numbers (m ∷ ms) [] = false
same_numbers (m ∷ ms) (n ∷ ns) = eqb m n && same_numbers ms ns

-- the job has the horizon and the idles of the first of those before it
abbrev pub like_first : List Job → Job → Bool
like_first [] job = true
like_first (first ∷ jobs) job = eqb job.horizon first.horizon && same_numbers job.idles first.idles

-- behind those before it, it takes the hall past neither 16 parts nor 64 openings
abbrev pub room_for : List Job → Job → Bool
room_for before job = leb (parts_in before + length job.parts) most_parts && leb (openings_in before + length job.openings) most_openings

-- neither is wrong
abbrev pub joins : List Job → Job → Bool
joins before job = like_first before job && room_for before job

-- a job behind these: 14 is "on that job's first line, after the job's own faults and before any on the lines behind the job"
unfoldable pub job_behind : List Job → Parser JobText
job_behind before = checked 14 (λ (t : JobText). joins before (meant_job t)) job_lines

-- n jobs behind these
unfoldable pub jobs_behind : ℕ → List Job → Parser (List JobText)
jobs_behind zero before = return []
jobs_behind (suc n) before = do
  t ← job_behind before
  ts ← jobs_behind n (before ++ (meant_job t ∷ []))
  return (t ∷ ts)

-- ---- the text

-- the lines of a hall
unfoldable pub hall_lines_lem : Parser HallText
hall_lines_lem = do
  n ← row "machines=" 1 most_lines
  c ← row "call=" 0 dearest_call
  ts ← jobs_behind n []
  return (record { call = c; jobs = ts })

-- E14.3. the whole text: "It has at most 65,536 bytes, else 1."
abbrev pub read_hall_text : List ℕ → Outcome HallText
read_hall_text s = read_text most_hall_bytes hall_lines_lem s
