-- What a whole hall text means, for the promises of calls; and its lines one job after the other, each added to the hall that is read so far: for contracts of code.
use Rattle.std.specs.Prelude.{ℕ, ◌≡◌, List, [], ◌∷◌, ◌++◌, map}
use Rattle.lines.specs.Parser.{Parsed, good, fault, Parser, ◌>>=◌, row, Outcome, accepted, refused}
use Rattle.job_grammar.specs.Grammar.{JobText}
use Rattle.hall_model.specs.Hall.{Hall}
use Rattle.hall_model.specs.Limits.{most_lines, dearest_call}
use Rattle.job_grammar.specs.Reading.{meant_job}
use Rattle.hall_grammar.specs.Grammar.{HallText, meant_hall, job_behind, jobs_behind, read_hall_text}

-- ---- what a text means

-- what a text without a fault means; a fault stays as it is
abbrev pub meaning : Outcome HallText → Outcome Hall
meaning (accepted t) = accepted (meant_hall t)
meaning (refused n l) = refused n l

-- the hall that a whole text means, or its first fault's number and line
abbrev pub read_hall_lem : List ℕ → Outcome Hall
read_hall_lem s = meaning (read_hall_text s)

-- the hall text says a hall
pub record HallReading (text : List ℕ) : Type 0 where
  pub said : HallText
  pub is : read_hall_text text ≡ accepted said

module _ {text : List ℕ} where
  -- the hall that it says
  abbrev pub hall_in : HallReading text → Hall
  hall_in r = meant_hall r.said

-- ---- its lines, job by job

-- what is read, seen through f
abbrev pub mapped : {A B : Type 0} → (A → B) → Parsed A → Parsed B
mapped f (good a s l) = good (f a) s l
mapped f (fault n l) = fault n l

-- a parser whose value is seen through f
unfoldable pub through : {A B : Type 0} → (A → B) → Parser A → Parser B
through f p s l = mapped f (p s l)

-- the hall with these lines behind its own
abbrev pub with_lines : Hall → List JobText → Hall
with_lines hall ts = record { call = hall.call; jobs = hall.jobs ++ map meant_job ts }

-- a job behind the lines of a hall: the hall with it
unfoldable pub line_behind : Hall → Parser Hall
line_behind hall = through (λ (t : JobText). with_lines hall (t ∷ [])) (job_behind hall.jobs)

-- n jobs behind the lines of a hall: the hall with them
unfoldable pub lines_behind : ℕ → Hall → Parser Hall
lines_behind n hall = through (with_lines hall) (jobs_behind n hall.jobs)

-- a hall of no lines, with the price of a call
abbrev pub no_lines : ℕ → Hall
no_lines call = record { call = call; jobs = [] }

-- the lines of a hall, as the hall that they mean
unfoldable pub hall_rows : Parser Hall
hall_rows = do
  n ← row "machines=" 1 most_lines
  c ← row "call=" 0 dearest_call
  lines_behind n (no_lines c)
