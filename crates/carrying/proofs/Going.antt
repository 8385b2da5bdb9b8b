-- What the text that is given is worth (`carried_on`): it reads back as the new job, plans that begin with the log are judged by their rest, and what remains of a printed plan is the new job's best. By the theory of carrying on.
use Prim.Native.Nat.{ℕ}
use mathlib.Core.Path.{◌≡◌, ap}
use mathlib.Core.List.{List}
use native.Mathlib.Omega.{arith}
use Rattle.lines.specs.Parser.{accepted}
use Rattle.job_grammar.specs.Grammar.{JobText, meant, meaning, read_job_text}
use Rattle.job_grammar.specs.Rendering.{job_text_lem}
use Rattle.job_grammar.proofs.Accepted.{valid_text}
use Rattle.carry.specs.Carry.{Log, Logged, Accepts}
use Rattle.carry.proofs.Begun.{lives_begun, cost_begun}
use Rattle.carry.proofs.Printed.{printed_remains}
use Rattle.job_grammar.specs.Reading.{meant_job}
use Rattle.carry_texts.specs.Carried.{carried_text}
use Rattle.carry_texts.proofs.Carried.{means_carried, low-carried, carried_read}
use Rattle.carrying.specs.Promise.{CarriedOn}

-- an accepted job and log are carried on as promised
pub carried_on : (text : List ℕ) (t : JobText) → read_job_text text ≡ accepted t → (log : Log) → Logged (meant_job t) log → Accepts (meant_job t) log → CarriedOn t log (job_text_lem (carried_text t log))
carried_on text t read log logged accepts =
    let v = valid_text text t read in
    let rising = v.means.job.rising in
    record {
      given = meant (carried_text t log);
      reads_back = ap meaning (carried_read t log v logged);
      means = means_carried t log v;
      low_means = low-carried t log v;
      keeps = λ plan s. let b = lives_begun (meant_job t) log plan s rising logged in (λ k. (b.0 k).1, λ k. b.1 (accepts.lives, k));
      costs = λ plan s. omega (arith, cost_begun (meant_job t) log plan s rising logged, accepts.true_cost_lem);
      remains = λ limit nodes floor cost plan e s. printed_remains (meant_job t) rising log logged limit nodes floor cost plan e s accepts.true_cost_lem;
    }
