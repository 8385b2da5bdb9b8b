-- Carrying on from a job text by a log, where it is accepted: E12 and E13 over texts.
use Rattle.std.specs.Prelude.{ℕ, ◌≡◌, List}
use Rattle.lines.specs.Parser.{accepted}
use Rattle.job_grammar.specs.Grammar.{JobText, read_job_text}
use Rattle.job_grammar.specs.Rendering.{job_text_lem}
use Rattle.model.specs.Model.{Job}
use Rattle.carry.specs.Carry.{Log, Accepts}
use Rattle.log_grammar.specs.Grammar.{LogText, log_of, read_log}
use Rattle.log_grammar.specs.Rendering.{joined_text}
use Rattle.job_grammar.specs.Reading.{meant_job}
use Rattle.carry_texts.specs.Carried.{carried_text}

-- "carrying on by a [..] log [..] is accepted": what the two texts say, that no part had used more than its life and the cost is true, and the text that is given
pub record Carries (job log next : List ℕ) : Type 0 where
  pub text : JobText
  pub said : LogText
  pub job_read : read_job_text job ≡ accepted text
  pub log_read : read_log (meant_job text) log ≡ accepted said
  pub accepts : Accepts (meant_job text) (log_of (meant_job text) said)
  pub gives : next ≡ job_text_lem (carried_text text (log_of (meant_job text) said))

module _ {job log next : List ℕ} where
  -- the job, and what was done
  abbrev pub job_in : Carries job log next → Job
  job_in c = meant_job c.text

  abbrev pub done_in : Carries job log next → Log
  done_in c = log_of (job_in c) c.said

-- E13.2. the joined log of two that are accepted one after the other
abbrev pub joined_lines : {job first next second last : List ℕ} → Carries job first next → Carries next second last → List ℕ
joined_lines a b = joined_text (job_in a) (done_in a) (done_in b)
