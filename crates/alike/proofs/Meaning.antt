-- Two accepted job texts that mean the same are answered alike (`by_meaning`), and so are two that differ in the `walk` line alone (`walk_set_aside`): once a job text is accepted, what a call says is a function of what it means.
use mathlib.Core.Path.{◌≡◌, refl, sym, ap, ◌∙◌}
use mathlib.Core.List.{List}
use Prim.Native.Nat.{ℕ}
use Rattle.lines.specs.Parser.{accepted}
use Rattle.job_grammar.specs.Grammar.{JobText, Given, meant, meaning, read_job_text, read_job_lem}
use Rattle.job_grammar.proofs.Accepted.{valid_text}
use Rattle.job_grammar.proofs.Complete.{read_back}
use Rattle.answers.specs.Said.{lent}
use Rattle.planning.specs.Plan.{plan_said}
use Rattle.planning.specs.Plan as planning
use Rattle.judging.specs.Judge.{judge_said}
use Rattle.judging.specs.Judge as judging
use Rattle.serving.specs.Serve.{latest_said}
use Rattle.serving.specs.Serve as serving
use Rattle.counting.specs.Count.{count_said}
use Rattle.counting.specs.Count as counting
use Rattle.alike.specs.Alike.{AnsweredAlike, with_walk, WalkSetAside}

-- both texts are read as the same meaning
module _ (s s' : List ℕ) (g : Given) (e : read_job_lem s ≡ accepted g) (e' : read_job_lem s' ≡ accepted g) where
  planner_alike : (walk : ℕ) → plan_said s walk ≡ plan_said s' walk
  unfolding plan_said
  planner_alike walk = ap (planning.on_job s walk) e ∙ sym (ap (planning.on_job s' walk) e')

  judge_alike : (plan : List ℕ) → judge_said s plan ≡ judge_said s' plan
  unfolding judge_said
  judge_alike plan = ap (judging.on_job s plan) e ∙ sym (ap (judging.on_job s' plan) e')

  latest_alike : (plan : List ℕ) → latest_said s plan ≡ latest_said s' plan
  unfolding latest_said
  latest_alike plan = ap (serving.on_job s plan) e ∙ sym (ap (serving.on_job s' plan) e')

  count_alike : count_said s ≡ count_said s'
  unfolding count_said
  count_alike = ap (counting.on_job s) e ∙ sym (ap (counting.on_job s') e')

  all_alike : AnsweredAlike s s'
  all_alike = record {
    planner = λ walk room. ap (lent 16384 room) (planner_alike walk);
    judge = λ plan room. ap (lent 16384 room) (judge_alike plan);
    latest = λ plan room. ap (lent 16384 room) (latest_alike plan);
    count = count_alike;
  }

-- two accepted texts that mean the same are answered alike
pub by_meaning : (s s' : List ℕ) (t t' : JobText) → read_job_text s ≡ accepted t → read_job_text s' ≡ accepted t' → meant t ≡ meant t' → AnsweredAlike s s'
by_meaning s s' t t' e e' same = all_alike s s' (meant t) (ap meaning e) (ap meaning e' ∙ ap accepted (sym same))

-- E10. the line `walk` moves no answer
pub walk_set_aside : WalkSetAside
walk_set_aside = record {
  alike = λ s s' t o e e'. by_meaning s s' t (with_walk o t) e e' refl;
  accepts = λ s t e o allowed. let v = valid_text s t e in read_back (with_walk o t) (record { means = v.means; idles = v.idles; walk = allowed; lines = v.lines });
}
