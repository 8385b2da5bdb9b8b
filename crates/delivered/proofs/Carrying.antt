-- Carrying on: the start of a plan that the planner printed with 0 is never refused (`told`), and there is one for each step (`there`); texts that differ in their `walk` line alone, and a text with rules and the one with
-- the lines written out, are carried on alike (`walk_carried`, `rules_carried`); and the other forms are kept (`forms_kept`).
use mathlib.Core.Path.{◌≡◌, refl, sym, ap, ap₂, subst, ◌∙◌}
use mathlib.Core.Bool.{Bool}
use mathlib.Core.List.{List, [], ◌∷◌, map}
use Prim.Native.Nat.{ℕ, ◌-◌, ◌+◌, ◌≤◌}
use native.Mathlib.Omega.{arith}
use Rattle.std.specs.Prelude.{Option, None}
use lib.ListN.{length, get_or, drop}
use Rattle.lines.specs.Parser.{Outcome, accepted, refused}
use Rattle.model.specs.Model.{Job, Plan, cost_of_lem, Each}
use Rattle.model.specs.Promise.{optimum, answer_of, PlanFor}
use Rattle.model.specs.Verdict.{Judgement, accepts, unkept, wrong_cost, judged_of}
use Rattle.model.proofs.Promised.{promise}
use Rattle.model.proofs.Verdicts.{lives_shaped}
use Rattle.price_rules.specs.Grammar.{Prices, by_list, by_rule_lem, written_out_lem}
use Rattle.part_lines.specs.Grammar.{PartText}
use Rattle.job_grammar.specs.Grammar.{JobText, Given, idle_in, read_job_text}
use Rattle.job_grammar.specs.Optionals.{idle_lines}
use Rattle.job_grammar.specs.Rendering.{job_text_lem}
use Rattle.job_grammar.proofs.Accepted.{valid_text}
use Rattle.plan_costs.proofs.Dearest.{cost_most}
use Rattle.answers.specs.Said.{Said, plainly, refusal}
use Rattle.judging.specs.Judge.{judge_reply}
use Rattle.carry.specs.Carry.{Log, passed, later, renumbered}
use Rattle.carry.specs.Answer.{until}
use Rattle.carry.specs.Start.{Starts, start_of}
use Rattle.carry.proofs.Start.{start_logged}
use Rattle.log_grammar.specs.Grammar.{LogText, log_of, read_log}
use Rattle.log_grammar.specs.Rendering.{log_text_lem, log_says}
use Rattle.log_grammar.proofs.Logs.{log_tells, says_log}
use Rattle.job_grammar.specs.Reading.{meant_job}
use Rattle.carry_texts.specs.Carried.{quoted, carried_lines, carried_part_lines, carried_text}
use Rattle.carry_texts.specs.Carries.{Carries}
use Rattle.carry_texts.specs.Carries as carries
use Rattle.carry_texts.proofs.Carried.{carried_read}
use Rattle.carry_texts.proofs.Started.{start_carries, start_read, start_starts_it}
use Rattle.carrying.specs.Carry.{said_after, judged_done, on_log, on_job, carry_said}
use Rattle.carrying.specs.Promise.{LogReading, job_in, done_in, true_cost}
use Rattle.carrying.proofs.Said.{carries_said}
use Rattle.alike.specs.Alike.{with_walk, part_out, rules_out}
use Rattle.alike.proofs.Rules.{rules_out_lem}
use Rattle.delivered.specs.Terms.{KeptLines}

-- ---- the start of a printed plan

-- at its true cost it is never refused
pub told : (text log : List ℕ) (r : LogReading text log) (limit nodes floor cost : ℕ) (plan : Plan) → answer_of (job_in r) limit ≡ optimum nodes floor cost plan
    → Starts (job_in r) (done_in r) plan → r.said.stated.cost ≡ true_cost r → (carry_said text log).result ≡ 0
told text log r limit nodes floor cost plan printed starts honest =
    ap (λ (s : Said). s.result) (carries_said (start_carries text r.text r.job_read limit nodes floor cost plan printed log r.said r.log_read starts honest))

-- and for each step that a log may have there is such a log
pub there : (text : List ℕ) (t : JobText) → read_job_text text ≡ accepted t → (limit nodes floor cost : ℕ) (plan : Plan) → answer_of (meant_job t) limit ≡ optimum nodes floor cost plan → (step : ℕ) → 1 ≤ step → step + 2 ≤ t.horizon
    → (log : List ℕ) × (r : LogReading text log) × (r.said.step ≡ step) × Starts (job_in r) (done_in r) plan × (r.said.stated.cost ≡ true_cost r)
there text t e limit nodes floor cost plan printed step one two =
    let job = meant_job t in
    let start = start_of job step plan in
    let shaped = lives_shaped job plan (subst (PlanFor job limit) printed (promise job limit).plan_for_lem).keeps in
    let same = says_log job start (start_logged job step plan shaped one two) in
    let back = start_read text t e limit nodes floor cost plan printed step one two (λ q. omega (arith, cost_most job (valid_text text t e).means.job q)) in (
      log_text_lem job start,
      record { text = t; said = log_says job start; job_read = e; log_read = back },
      refl,
      subst (λ (l : Log). Starts job l plan) (sym same) (start_starts_it text t e limit nodes floor cost plan printed step),
      ap (λ (l : Log). cost_of_lem job l.plan) (sym same),
    )

-- ---- an accepted job text's answer, by the job that it means and the text that a log leaves

-- by the judgement on what was done
abbrev after : (Log → JobText) → Log → Judgement → Said
after leaves done (accepts cost) = plainly 0 (job_text_lem (leaves done))
after leaves done (unkept part due) = judge_reply (unkept part due)
after leaves done (wrong_cost cost) = judge_reply (wrong_cost cost)

-- by what the log reads as
abbrev by : List ℕ → Job → (Log → JobText) → Outcome LogText → Said
by log job leaves (accepted said) = let done = log_of job said in after leaves done (judged_of (until job done.step) done.cost done.plan)
by log job leaves (refused n l) = refusal 2 log n l

after_is : (t : JobText) (done : Log) (j : Judgement) → said_after t done j ≡ after (carried_text t) done j
after_is t done (accepts cost) = refl
after_is t done (unkept part due) = refl
after_is t done (wrong_cost cost) = refl

by_is : (log : List ℕ) (t : JobText) (x : Outcome LogText) → on_log log t x ≡ by log (meant_job t) (carried_text t) x
by_is log t (accepted said) = let done = log_of (meant_job t) said in after_is t done (judged_done t done)
by_is log t (refused n l) = refl

-- two texts that mean the same job and of which each log leaves the same
carried_alike : (s s' log : List ℕ) (t t' : JobText) → read_job_text s ≡ accepted t → read_job_text s' ≡ accepted t' → meant_job t ≡ meant_job t' → ((done : Log) → carried_text t done ≡ carried_text t' done)
    → carry_said s log ≡ carry_said s' log
unfolding carry_said
carried_alike s s' log t t' e e' same leaves =
    let texts : carried_text t ≡ carried_text t' = λ i done. leaves done i in
    ap (on_job s log) e
    ∙ by_is log t (read_log (meant_job t) log)
    ∙ ap₂ (λ (j : Job) (f : Log → JobText). by log j f (read_log j log)) same texts
    ∙ sym (by_is log t' (read_log (meant_job t') log))
    ∙ sym (ap (on_job s' log) e')

-- ---- the `walk` line

-- texts that differ in the line alone
pub walk_carried : (s s' log : List ℕ) (t : JobText) (walk : Option ℕ) → read_job_text s ≡ accepted t → read_job_text s' ≡ accepted (with_walk walk t) → carry_said s log ≡ carry_said s' log
walk_carried s s' log t walk e e' = carried_alike s s' log t (with_walk walk t) e e' refl (λ done. refl)

-- ---- rules

-- prices written out are quoted alike
quoted_out : (n : ℕ) (p : Prices) → quoted n p ≡ quoted n (written_out_lem n p)
quoted_out n (by_list qs) = refl
quoted_out n (by_rule_lem r) = refl

-- and so are the parts' lines that are left
parts_out : (n : ℕ) (job : Job) (step : ℕ) (ps : List PartText) (cs : List (List Bool)) → carried_part_lines n job step ps cs ≡ carried_part_lines n job step (map (part_out n) ps) cs
unfolding carried_part_lines
parts_out n job step [] cs = refl
parts_out n job step (p ∷ ps) cs =
    let q = quoted_out n p.prices in
    let r = parts_out n job step ps (drop 1 cs) in
    λ i. record { life = p.life; left = (carried_lines n job step p (get_or cs 0 [])).left; cover = p.cover; prices = by_list (drop (passed job step) (q i)) } ∷ r i

-- and the text
text_out : (t : JobText) (done : Log) → meant_job t ≡ meant_job (rules_out t) → carried_text t done ≡ carried_text (rules_out t) done
text_out t done same =
    let n = length t.openings in
    let ps = parts_out n (meant_job t) done.step t.parts done.plan.changes ∙ ap (λ (j : Job). carried_part_lines n j done.step (map (part_out n) t.parts) done.plan.changes) same in
    λ i. record {
      horizon = t.horizon - done.step;
      idles = idle_lines (later done.step (idle_in t.idles));
      walk = None;
      openings = map (renumbered done.step) (drop (passed (meant_job t) done.step) t.openings);
      parts = ps i;
    }

-- a text with rules, and the one with the lines written out
pub rules_carried : (s log : List ℕ) (t : JobText) → read_job_text s ≡ accepted t → carry_said s log ≡ carry_said (job_text_lem (rules_out t)) log
rules_carried s log t e =
    let same : meant_job t ≡ meant_job (rules_out t) = ap (λ (g : Given). g.job) (rules_out_lem.means s t e) in
    carried_alike s (job_text_lem (rules_out t)) log t (rules_out t) e (rules_out_lem.accepts s t e) same (λ done. text_out t done same)

-- ---- the forms that are kept

-- each part's lines
parts_kept : (n : ℕ) (job : Job) (step : ℕ) (ps : List PartText) (cs : List (List Bool)) → Each (KeptLines n (passed job step)) ps (carried_part_lines n job step ps cs)
unfolding carried_part_lines
parts_kept n job step [] cs = tt
parts_kept n job step (p ∷ ps) cs =
    let prices : Prices → Prices = λ x. by_list (drop (passed job step) (quoted n x)) in
    (record { life = refl; cover = refl; listed = λ qs e. ap prices e; ruled = λ r e. ap prices e }, parts_kept n job step ps (drop 1 cs))

-- what the text says that a log leaves
pub forms_kept : (job log next : List ℕ) (c : Carries job log next) → (t : JobText) × (read_job_text next ≡ accepted t) × (t.walk ≡ None)
    × Each (KeptLines (length c.text.openings) (passed (carries.job_in c) (carries.done_in c).step)) c.text.parts t.parts
forms_kept job log next c =
    let t = c.text in
    let done = carries.done_in c in
    let v = valid_text job t c.job_read in
    let logged = (log_tells (meant_job t) v.means.job log c.said c.log_read).logged in
    (carried_text t done, ap read_job_text c.gives ∙ carried_read t done v logged, refl, parts_kept (length t.openings) (meant_job t) done.step t.parts done.plan.changes)
