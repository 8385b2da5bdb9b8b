-- The whole text's answers in the grammar's terms: what a text means (`text_means`, `means`, `means_in`), and what it reads as by its reader's answer (`refused_job`, `accepted_job`). By the parts and the answer.
use Rattle.std.specs.Prelude.{Option, Result, Ok, Err}
use Prim.Native.Nat.{ℕ}
use mathlib.Core.Path.{◌≡◌, sym, ap, ◌∙◌}
use mathlib.Core.List.{List, map}
use lib.ListN.{length}
use Rattle.lines.specs.Fault.{number_of_lem}
use Rattle.lines.specs.Parser.{Outcome, accepted, refused}
use Rattle.lines.specs.Reads.{outcome, seen}
use Rattle.lines.specs.declared.fault.Fault.{Fault}
use Rattle.job_grammar.specs.Grammar.{JobText, meant, meaning, read_job_text, read_job_lem}
use Rattle.job_grammar.proofs.Optionals.{idle_steps_lem2}
use Rattle.part_lines.specs.Grammar.{meant_part}
use Rattle.part_lines.specs.declared.said.PartSaid.{PartSaid}
use Rattle.jobs.specs.Views.{job_of}
use Rattle.jobs.specs.declared.Job.{Job}
use Rattle.job_text.specs.declared.text.JobText as code
use Rattle.job_text.specs.Said.{said_text, said_given}
use Rattle.job_text.specs.declared.accepted.AcceptedText.{AcceptedText}
use Rattle.job_text.specs.Views.{text_of, given_of, text_in, given_in}

-- a text whose parts are what their lines mean means its job
pub text_means : (walk : Option ℕ) (said : List PartSaid) (job : Job) → map (meant_part (length (job_of job).openings)) (said_text walk said job).parts ≡ (job_of job).parts → meant (said_text walk said job) ≡ said_given walk said job
text_means walk said job e =
    let f = sym (idle_steps_lem2 (job_of job).idles) in
    λ i. record { job = record { horizon = job.horizon; idles = f i; openings = (job_of job).openings; parts = e i }; low = (said_given walk said job).low; banded = (said_given walk said job).banded }

-- what a struct means is what its text means
pub means : (r : Result code.JobText Fault) {x : Outcome JobText} → outcome (seen text_of r) ≡ x → outcome (seen given_of r) ≡ meaning x
means (Ok t) h = ap accepted (sym t.means) ∙ ap meaning h
means (Err e) h = ap meaning h

-- what an accepted text means is what it says means
pub means_in : (r : Result AcceptedText Fault) {x : Outcome JobText} → outcome (seen text_in r) ≡ x → outcome (seen given_in r) ≡ meaning x
means_in (Ok t) h = ap accepted (sym t.means) ∙ ap meaning h
means_in (Err e) h = ap meaning h

-- the job text reads as what its reader answers: a fault
pub refused_job : (text : List ℕ) {r : Result AcceptedText Fault} {f : Fault} → outcome (seen text_in r) ≡ read_job_text text → r ≡ Err f → read_job_lem text ≡ refused (number_of_lem f.kind) f.line
refused_job text h e = sym (means_in _ h) ∙ ap (λ r. outcome (seen given_in r)) e

-- or what it means
pub accepted_job : (text : List ℕ) {r : Result AcceptedText Fault} {t : AcceptedText} → outcome (seen text_in r) ≡ read_job_text text → r ≡ Ok t → read_job_lem text ≡ accepted (given_in t)
accepted_job text h e = sym (means_in _ h) ∙ ap (λ r. outcome (seen given_in r)) e
