-- What is known of an accepted job text and of a log in the code's structs: some texts say them.
use Rattle.std.specs.Prelude.{ℕ, ◌≡◌, List}
use Rattle.lines.specs.Parser.{accepted}
use Rattle.jobs.specs.Views.{job_of}
use Rattle.job_grammar.specs.Grammar.{read_job_text}
use Rattle.job_text.specs.Views.{text_in}
use Rattle.job_text.specs.declared.accepted.AcceptedText.{AcceptedText}
use Rattle.log_grammar.specs.Grammar.{read_log}
use Rattle.log_text.specs.Views.{said}
use Rattle.log_text.specs.declared.whole.LogText.{LogText}

-- both were read, the log against the job
pub record BothRead (t : AcceptedText) (d : LogText) : Type 0 where
  pub job : List ℕ
  pub log : List ℕ
  pub job_read : read_job_text job ≡ accepted (text_in t)
  pub log_read : read_log (job_of t.job.job) log ≡ accepted (said t.job.job d)
