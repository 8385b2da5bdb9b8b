-- `optimum`: a fault of the job text is refused; else the job is searched, and what the search ends in keeps the promise.
use mathlib.Core.Path.{◌≡◌, sym, ap, subst, ◌∙◌}
use native.Mathlib.Omega.{arith}
use Prim.Native.Nat.{ℕ}
use lib.ListN.{length}
use Rattle.lines.specs.Parser.{accepted, refused}
use Rattle.lines.specs.Fault.{number_of_lem}
use Rattle.lines.specs.Reads.{outcome, seen}
use Rattle.answers.specs.Said.{refusal}
use Rattle.job_grammar.specs.Grammar.{read_job_lem}
use Rattle.job_text.specs.Views.{given_in}
use Rattle.job_text.proofs.Views.{means_in}
use Rattle.job_grammar.proofs.Numbered.{fault}
use Rattle.optimum_search.specs.Ends.{Ends}
use Rattle.optimizing.specs.Optimum.{optimum_reply}
use Rattle.optimizing.proofs.Promised.{promised_read, promised_refused}
use Rattle.optimizing.proofs.optimum.Goals as goal
use Rattle.optimizing.proofs.optimum.Goals.{In-Err, In-Ok}

-- what the job text reads as, by what was read
refused_job : (c : In-Err) → read_job_lem c.args.job.now ≡ refused (number_of_lem c.in-Err.fault.kind) c.in-Err.fault.line
refused_job c = sym (means_in _ c.read_job.ensures) ∙ ap (λ r. outcome (seen given_in r)) c.in-Err.is

accepted_job : (c : In-Ok) → read_job_lem c.args.job.now ≡ accepted (given_in c.in-Ok.text)
accepted_job c = sym (means_in _ c.read_job.ensures) ∙ ap (λ r. outcome (seen given_in r)) c.in-Ok.is

pub refuse-requires : goal.refuse-requires
refuse-requires c = (omega (arith, (fault _ _ _ (refused_job (goal.at.refuse-requires c).In-Err)).1), omega arith)

pub returns-in-Err : goal.returns-in-Err
returns-in-Err c = let a = c.args in
    let n = number_of_lem c.in-Err.fault.kind in
    let l = c.in-Err.fault.line in
    record {
      said = refusal 1 a.job.now n l;
      replied = c.refuse.ensures;
      promise = promised_refused a.job.now a.walk (length a.out.now) n l (refused_job (goal.at.returns-in-Err c).In-Err);
    }

pub returns-in-Ok : goal.returns-in-Ok
returns-in-Ok c = let a = c.args in
    let found = c.search_text.ensures in
    let given = given_in c.in-Ok.text in
    record {
      said = optimum_reply given found.0;
      replied = found.2;
      promise = promised_read a.job.now a.walk (length a.out.now) given (accepted_job (goal.at.returns-in-Ok c).In-Ok) found.0 (subst (λ (n : ℕ). Ends given.job n found.0) c.walk_number.ensures found.1);
    }
