-- Every call answers as before (`as_before`): the texts say the same (`Jobs`, `Plans`), and of a job with no holders and removals of 0 the answer and a plan's cost are the ones before (`model/Unheld`).
use Prim.Native.Nat.{ℕ}
use mathlib.Core.Path.{◌≡◌, refl, sym, ap, ◌∙◌, subst}
use mathlib.Core.Bool.{Bool, cond}
use mathlib.Core.List.{List, [], ◌∷◌, map}
use native.Mathlib.Omega.{arith}
use lib.ListN.{length}
use Rattle.lines.specs.Parser.{accepted}
use Rattle.model.specs.Model.{Job}
use Rattle.model.specs.Promise.{answer_of}
use Rattle.model.specs.Verdict.{judged, judged_of, verdict_of_lem}
use Rattle.longest_walk.specs.Count.{open_count}
use Rattle.model.proofs.NoHolders.{held_none}
use Rattle.model.proofs.Unheld.{Plain, plain_unheld, answer_before, cost_before}
use Rattle.base.specs.Each.{All}
use Rattle.jobs.specs.Valid.{ValidPart}
use Rattle.job_grammar.specs.Grammar.{read_job_lem}
use Rattle.job_grammar.proofs.Accepted.{valid}
use Rattle.plan_grammar.specs.Grammar.{Stated}
use Rattle.answers.specs.Said.{lent}
use Rattle.planning.specs.Plan as planning
use Rattle.judging.specs.Judge as judging
use Rattle.counting.specs.Count as counting
use Rattle.before_holders.specs.Texts as texts
use Rattle.before_holders.specs.Answers as before
use Rattle.before_holders.specs.AsBefore.{Accepted, as_today, AsBefore}
use Rattle.before_holders.proofs.Jobs.{said, job_before, walk_before, accepted-before}
use Rattle.before_holders.proofs.Plans.{plan_before}

-- ---- the job: no holders, removals of 0 and a price for each opening

parts_plain : (n : ℕ) (ps : List texts.PartText) → All (ValidPart n) (map texts.meant_part ps) → Plain n (map texts.meant_part ps)
parts_plain n [] v = tt
parts_plain n (p ∷ ps) v = (refl, refl, v.0.priced, parts_plain n ps v.1)

job_plain : (text : List ℕ) (g : texts.Given) → texts.read_job_lem text ≡ accepted g → Plain (length g.job.openings) g.job.parts
job_plain text g e =
    let t = said text g e in
    let v = (valid text (as_today g) (job_before text g e)).job.parts in
    subst (λ (h : texts.Given). All (ValidPart (length h.job.openings)) h.job.parts → Plain (length h.job.openings) h.job.parts) t.means
    (parts_plain (length t.text.openings) t.text.parts) v

-- ---- the answers

module _ (text : List ℕ) (a : Accepted text) where
  abbrev job : Job
  job = a.given.job

  plain : Plain (length job.openings) job.parts
  plain = job_plain text a.given a.is

  today : read_job_lem text ≡ accepted (as_today a.given)
  today = job_before text a.given a.is

  -- given the text's own walk number, the planner says what it said before holders
  pub planner_before : planning.plan_said text a.given.walk ≡ before.plan_said text
  unfolding planning.plan_said before.plan_said
  planner_before =
      let few = walk_before text a.given a.is in
      let same : planning.walk_number_lem a.given.walk ≡ a.given.walk = omega (arith, few) in
      ap (planning.on_job text a.given.walk) today
      ∙ ap (λ (n : ℕ). planning.planner_reply (before.unbanded job) (answer_of job n)) same
      ∙ ap (planning.planner_reply (before.unbanded job)) (answer_before job plain a.given.walk)
      ∙ sym (ap (before.plan_on text) a.is)

  -- the count says of an accepted text what it said before holders
  pub count_before : counting.count_said text ≡ before.count_said text
  unfolding counting.count_said counting.counted_job_lem before.count_said
  count_before =
      ap (counting.on_job text) today
      ∙ ap (λ (t : Bool). cond t counting.holder_refusal (counting.count_given (open_count job))) (held_none job.parts (plain_unheld (length job.openings) job.parts plain))
      ∙ sym (ap (before.count_on text) a.is)

  -- the judge says of a text and an accepted plan what it said before holders
  pub judge_before : (plan : List ℕ) (stated : Stated) → texts.read_plan_lem job plan ≡ accepted stated → judging.judge_said text plan ≡ before.judge_said text plan
  unfolding judging.judge_said before.judge_said judged_of
  judge_before plan stated e =
      ap (judging.on_job text plan) today
      ∙ ap (judging.on_plan plan job) (plan_before job plan stated e)
      ∙ ap (λ (c : ℕ). judging.judge_reply (judged stated.cost c (verdict_of_lem job stated.plan))) (cost_before job plain stated.plan)
      ∙ sym (ap (before.judge_plan_lem plan job) e)
      ∙ sym (ap (before.judge_on text plan) a.is)

-- ---- all calls

pub as_before : AsBefore
as_before = record {
  accepts = accepted-before;
  job_text_lem2 = today;
  plan_text_lem2 = λ job plan a. plan_before a.job_text_lem2.given.job plan a.stated a.is;
  planner = λ text a room. ap (lent 16384 room) (planner_before text a);
  judge = λ job plan a room. ap (lent 16384 room) (judge_before job a.job_text_lem2 plan a.stated a.is);
  count = count_before;
}
