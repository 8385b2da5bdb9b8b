-- `read_job`: a text over the limit is refused; else its lines decide, and a job that they mean is valid.
use mathlib.Core.Path.{◌≡◌, sym, ◌∙◌}
use Rattle.std.specs.Prelude.{Ok}
use Rattle.std.proofs.lemmas.Result.{err_from_is_err_and}
use Rattle.lines.specs.Parser.{accepted}
use Rattle.lines.proofs.Parsing.{text_long, text_fits}
use Rattle.jobs.proofs.Jobs.{sized}
use Rattle.job_grammar.specs.Grammar.{max_bytes, job_lines, read_job_text}
use Rattle.job_grammar.specs.Valid.{Valid}
use Rattle.job_grammar.proofs.Accepted.{valid}
use Rattle.job_text.specs.Views.{text_of, given_of}
use Rattle.job_text.proofs.Views.{means}
use Rattle.job_text.proofs.whole.read_job.Goals as goal
use Rattle.job_text.proofs.whole.read_job.Goals.{In_ok-read}

pub returns-then-text-gt-MAX_BYTES : goal.returns-then-text-gt-MAX_BYTES
returns-then-text-gt-MAX_BYTES c = text_long max_bytes job_lines _ c.if-text-gt-MAX_BYTES.true

-- the whole text is read as its lines are
whole : (c : In_ok-read) → accepted (text_of c.in_ok-read.read) ≡ read_job_text c.args.text.now
whole c = c.in_ok-read.ensures ∙ text_fits max_bytes job_lines _ c.if-text-gt-MAX_BYTES.false

-- what it means is valid
sound : (c : In_ok-read) → Valid (given_of c.in_ok-read.read)
sound c = valid c.args.text.now (given_of c.in_ok-read.read) (sym (means (Ok c.in_ok-read.read) (whole c)))

pub returns-in_err-read : goal.returns-in_err-read
returns-in_err-read c = let p = err_from_is_err_and c.from_residual.result c.from_residual.ensures.1 in
    rw (p.1, p.2) (c.in_err-read.ensures ∙ text_fits max_bytes job_lines _ c.if-text-gt-MAX_BYTES.false)

pub of-job-requires : goal.of-job-requires
of-job-requires c = record { sized = sized c.in_ok-read.read.job; valid = (sound (goal.at.of-job-requires c).In_ok-read).job }

pub invariant_of-result : goal.invariant_of-result
invariant_of-result c = rw c.of-job.ensures (record { means = c.in_ok-read.read.means; valid = sound (goal.at.invariant_of-result c).In_ok-read })

pub returns : goal.returns
returns c = rw c.of-job.ensures (whole (goal.at.returns c).In_ok-read)
