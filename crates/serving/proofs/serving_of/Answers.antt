-- `serving_of`: by the verdict on the plan, which says whether its stops serve where its changes are the latest.
use Prim.Native.Nat.{ℕ}
use mathlib.Core.Path.{◌≡◌, refl, sym, ap, ◌∙◌}
use Rattle.std.specs.Prelude.{Some, None, Result, Ok, Err}
use Rattle.std.specs.Result.{result_ok}
use Rattle.model.specs.Model.{cost_of_lem}
use Rattle.model.specs.Verdict.{verdict_of_lem, keeps, late}
use Rattle.jobs.specs.Views.{job_of, plan_for}
use Rattle.plan_lives.specs.declared.lives.Late.{Late}
use Rattle.plan_lives.specs.Views.{model_verdict}
use Rattle.counting.proofs.Promised.{ordered}
use Rattle.latest.specs.Latest.{serves}
use Rattle.latest.proofs.ByVerdict.{kept_serves, late-unserved}
use Rattle.serving.specs.Serving.{served_answer}
use Rattle.serving.proofs.serving_of.Goals as goal

-- where the verdict is no `Ok` some part is late, and else all are kept
unkept : (v : Result (Unit {0}) Late) → result_ok v ≡ None → (part : ℕ) × (due : ℕ) × (model_verdict v ≡ late part due)
unkept (Ok done) e = absurd (cc)
unkept (Err l) e = (l.part, l.due, refl)

kept : (v : Result (Unit {0}) Late) (done : Unit {0}) → result_ok v ≡ Some done → model_verdict v ≡ keeps
kept (Ok _) done e = refl
kept (Err l) done e = absurd (cc)

pub returns-in_err-ok : goal.returns-in_err-ok
returns-in_err-ok c stops e = let job = job_of c.args.job.now.job in
    let found = unkept c.verdict_of.result (sym c.ok.ensures.value ∙ c.in_err-ok.was) in
    ap (served_answer (plan_for c.args.job.now.job c.args.plan.now)) c.from_residual.ensures
    ∙ sym (late-unserved job stops (ordered job c.args.job.now.valid) found.0 found.1 (ap (verdict_of_lem job) (sym e) ∙ sym c.verdict_of.ensures ∙ found.2))

pub returns : goal.returns
returns c stops e = let job = job_of c.args.job.now.job in
    let found = kept c.verdict_of.result c.in_ok-ok.field-0 (sym c.ok.ensures.value ∙ c.in_ok-ok.was) in
    (λ i. serves ((c.cost_of.ensures ∙ ap (cost_of_lem job) e) i) (e i)) ∙ sym (kept_serves job stops (ordered job c.args.job.now.valid) (ap (verdict_of_lem job) (sym e) ∙ sym c.verdict_of.ensures ∙ found))
