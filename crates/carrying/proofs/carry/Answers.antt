-- `carry`: a fault of the job text is refused; else the log is read against the job. The promise holds of the defined answer.
use mathlib.Core.Path.{◌≡◌, sym, ap, subst, ◌∙◌}
use native.Mathlib.Omega.{arith}
use lib.ListN.{length}
use Rattle.lines.specs.Parser.{accepted, refused}
use Rattle.lines.specs.Fault.{number_of_lem}
use Rattle.lines.specs.Reads.{outcome, seen}
use Rattle.job_grammar.specs.Grammar.{meaning, read_job_text}
use Rattle.job_grammar.proofs.Numbered.{fault}
use Rattle.job_text.specs.Views.{text_in}
use Rattle.model.specs.Model.{Job}
use Rattle.answers.specs.Said.{Replied}
use Rattle.log_grammar.specs.Grammar.{read_log}
use Rattle.carrying.specs.Carry.{on_log, carry_said, carry_room}
use Rattle.carrying.proofs.Done.{means}
use Rattle.carrying.proofs.Promised.{promised}
use Rattle.carrying.proofs.carry.Goals as goal
use Rattle.carrying.proofs.carry.Goals.{In-Err, In-Ok}

-- what the job text says, by what was read
refused_job : (c : In-Err) → read_job_text c.args.job.now ≡ refused (number_of_lem c.in-Err.fault.kind) c.in-Err.fault.line
refused_job c = sym c.read_job.ensures ∙ ap (λ r. outcome (seen text_in r)) c.in-Err.is

accepted_job : (c : In-Ok) → read_job_text c.args.job.now ≡ accepted (text_in c.in-Ok.text)
accepted_job c = sym c.read_job.ensures ∙ ap (λ r. outcome (seen text_in r)) c.in-Ok.is

pub carry_log-requires : goal.carry_log-requires
carry_log-requires c = (c.args.job.now, accepted_job (goal.at.carry_log-requires c).In-Ok)

pub refuse-requires : goal.refuse-requires
refuse-requires c = (omega (arith, (fault _ _ _ (ap meaning (refused_job (goal.at.refuse-requires c).In-Err))).1), omega arith)

pub returns-in-Err : goal.returns-in-Err
unfolding carry_said
returns-in-Err c = let a = c.args in
    record { replied = rw (refused_job (goal.at.returns-in-Err c).In-Err) c.refuse.ensures; carry_promise = promised a.job.now a.log.now (length a.out.now) }

pub returns-in-Ok : goal.returns-in-Ok
unfolding carry_said
returns-in-Ok c = let a = c.args in
    let t = c.in-Ok.text in
    let said = subst (λ (j : Job). Replied carry_room (on_log a.log.now (text_in t) (read_log j a.log.now)) a.out.now c.carry_log.new.out c.carry_log.result) (sym (means t)) c.carry_log.ensures in
    record { replied = rw (accepted_job (goal.at.returns-in-Ok c).In-Ok) said; carry_promise = promised a.job.now a.log.now (length a.out.now) }
