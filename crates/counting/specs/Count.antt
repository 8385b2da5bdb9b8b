-- What the call hands over for a job text. E6.2. "It hands back result, line and count; the count is 0 for a refused job text." E7.12. "E6's count refuses jobs with a holder".
use Rattle.std.specs.Prelude.{ℕ, cond, List}
use Rattle.lines.specs.Parser.{Outcome, accepted, refused}
use Rattle.fault_lines.specs.Fault.{fault_span_lem}
use Rattle.model.specs.Model.{Job, has_holder_lem}
use Rattle.longest_walk.specs.Count.{open_count}
use Rattle.job_grammar.specs.Grammar.{Given, read_job_lem}
use Rattle.counting.specs.declared.Counted.{Counted}

-- a result number and a count, where the job text is not at fault
abbrev pub plain_lem : ℕ → ℕ → Counted
plain_lem number count = record { result = number; text = 0; line = 0; count = count; fault_start = 0; fault_length = 0 }

-- an accepted job's count
abbrev pub count_given : ℕ → Counted
count_given n = record { result = 0; text = 0; line = 0; count = n; fault_start = 0; fault_length = 0 }

-- a fault of the job text, on a line of it
abbrev pub refusal_of : List ℕ → ℕ → ℕ → Counted
refusal_of text number at = record {
  result = number;
  text = 1;
  line = at;
  count = 0;
  fault_start = (fault_span_lem at text).start;
  fault_length = (fault_span_lem at text).length;
}

-- E7.12. a job with a holder: "12 with line 0 after all text checks"
abbrev pub holder_refusal : Counted
holder_refusal = record { result = 12; text = 0; line = 0; count = 0; fault_start = 0; fault_length = 0 }

-- what is handed over for an accepted job
unfoldable pub counted_job_lem : Job → Counted
counted_job_lem job = cond (has_holder_lem job) holder_refusal (count_given (open_count job))

-- by what the job text reads as: what an accepted job gives, or the fault
abbrev pub on_job : List ℕ → Outcome Given → Counted
on_job text (accepted given) = counted_job_lem given.job
on_job text (refused number line) = refusal_of text number line

-- the whole answer, by the text alone: nothing is written, so no room is asked for
unfoldable pub count_said : List ℕ → Counted
count_said text = on_job text (read_job_lem text)
