-- Two texts read as one job and one plan: what holds of a reading of them holds of any other (`moved`).
use Prim.Native.Nat.{ℕ}
use mathlib.Core.Path.{◌≡◌, ap, subst, ◌∙◌}
use mathlib.Core.List.{List}
use Rattle.lines.specs.Parser.{accepted}
use Rattle.lines.proofs.Outcomes.{one_value}
use Rattle.job_grammar.specs.Grammar.{Given, read_job_lem}
use Rattle.plan_grammar.specs.Grammar.{Stated, read_plan_lem}
use Rattle.judging.specs.Promise.{PlanReading}

-- the plan text reads the same against any job that the job text reads as
pub other_plan : (job_text_lem plan_text_lem : List ℕ) {g h : Given} → read_job_lem job_text_lem ≡ accepted g → read_job_lem job_text_lem ≡ accepted h → read_plan_lem g.job plan_text_lem ≡ read_plan_lem h.job plan_text_lem
other_plan job_text_lem plan_text_lem e f = ap (λ (x : Given). read_plan_lem x.job plan_text_lem) (one_value f e)

-- what holds of one reading of two texts holds of each other reading of them
pub moved : {job_text_lem plan_text_lem : List ℕ} (P : Given → Stated → Type 0) (r q : PlanReading job_text_lem plan_text_lem) → P r.given r.stated → P q.given q.stated
moved {job_text_lem} {plan_text_lem} P r q p =
    subst (λ (x : Given). P x q.stated) (one_value q.job_read r.job_read)
    (subst (P r.given) (one_value q.plan_read (other_plan job_text_lem plan_text_lem q.job_read r.job_read ∙ r.plan_read)) p)
