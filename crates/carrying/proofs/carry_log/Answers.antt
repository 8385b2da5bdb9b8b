-- `carry_log`: a fault of the log is refused; else what it says is carried on by.
use mathlib.Core.Path.{◌≡◌, sym, ap, ◌∙◌}
use native.Mathlib.Omega.{arith}
use Rattle.lines.specs.Parser.{accepted, refused}
use Rattle.lines.specs.Fault.{number_of_lem}
use Rattle.jobs.specs.Views.{job_of}
use Rattle.log_grammar.specs.Grammar.{read_log}
use Rattle.log_grammar.proofs.Numbered.{log_fault}
use Rattle.log_text.specs.Views.{outcome, said}
use Rattle.carrying.proofs.carry_log.Goals as goal
use Rattle.carrying.proofs.carry_log.Goals.{In-Err, In-Ok}

-- what the log reads as, by what was read
refused-log : (c : In-Err) → let a = c.args in read_log (job_of a.text.now.job.job) a.log.now ≡ refused (number_of_lem c.in-Err.fault.kind) c.in-Err.fault.line
refused-log c = sym c.read_log.ensures ∙ ap (outcome c.args.text.now.job.job) c.in-Err.is

accepted-log : (c : In-Ok) → let a = c.args in read_log (job_of a.text.now.job.job) a.log.now ≡ accepted (said a.text.now.job.job c.in-Ok.done)
accepted-log c = sym c.read_log.ensures ∙ ap (outcome c.args.text.now.job.job) c.in-Ok.is

pub carry_on-requires : goal.carry_on-requires
carry_on-requires c = record { job = c.requires.0; log = c.args.log.now; job_read = c.requires.1; log_read = accepted-log (goal.at.carry_on-requires c).In-Ok }

pub refuse-requires : goal.refuse-requires
refuse-requires c = (omega (arith, (log_fault _ _ _ _ (refused-log (goal.at.refuse-requires c).In-Err)).1), omega arith)

pub returns-in-Err : goal.returns-in-Err
returns-in-Err c = rw (refused-log (goal.at.returns-in-Err c).In-Err) c.refuse.ensures

pub returns-in-Ok : goal.returns-in-Ok
returns-in-Ok c = rw (accepted-log (goal.at.returns-in-Ok c).In-Ok) c.carry_on.ensures
