-- `read_line`: the job that the lines mean, which is accepted.
use Rattle.std.proofs.Common.{rules}
use mathlib.Core.Path.{ap, ◌∙◌}
use Rattle.lines.specs.Parser.{Parsed, good}
use Rattle.job_grammar.specs.Reading.{meant_job}
use Rattle.hall_grammar.specs.Reading.{mapped, through}
use Rattle.jobs.specs.declared.Job.{Job}
use Rattle.jobs.specs.Views.{job_of}
use Rattle.jobs.proofs.Jobs.{sized}
use Rattle.model.specs.Model as model
use Rattle.hall_text.proofs.Lines.{job_meant, job_sound}
use Rattle.hall_text.proofs.reading.read_line.Goals as goal

pub returns-in_err-read : goal.returns-in_err-read
unfolding through
returns-in_err-read c = search rules

pub of-requires : goal.of-requires
of-requires c = record { sized = sized c.in_ok-read.read.job; valid = job_sound c.in_ok-read.read _ _ _ _ c.in_ok-read.ensures }

pub returns : goal.returns
unfolding through
returns c = let left = c.read_job_lines.new.lines in
    let seen : model.Job → Parsed model.Job = λ job. good job left.rest.now left.line in
    ap (λ (j : Job). seen (job_of j)) c.of.ensures ∙ ap seen (job_meant c.in_ok-read.read) ∙ ap (mapped meant_job) c.in_ok-read.ensures
