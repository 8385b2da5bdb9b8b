-- E13 over texts: the text written after two logs is the one written after the joined log (`same_text`), byte for byte, and carrying on by the joined log is accepted (`two_or_one`).
use Rattle.std.specs.Prelude.{None}
use mathlib.Core.Path.{◌≡◌, refl, sym, ap, subst, ◌∙◌}
use mathlib.Core.Bool.{Bool}
use mathlib.Core.List.{List, [], ◌∷◌, map}
use Prim.Native.Nat.{ℕ, ◌+◌, ◌-◌, ◌≤◌}
use native.Mathlib.Omega.{arith}
use lib.ListN.{length, get_or, drop}
use lib.Seq.{drop-drop}
use Rattle.lines.proofs.Outcomes.{one_value}
use Rattle.model.specs.Model.{Job, Plan, cost_of_lem, Each}
use Rattle.jobs.specs.Valid.{ValidJob}
use Rattle.price_rules.specs.Grammar.{by_list}
use Rattle.part_lines.specs.Grammar.{PartText, meant_part}
use Rattle.job_grammar.specs.Grammar.{JobText, idle_in, read_job_text}
use Rattle.job_grammar.specs.Optionals.{idle_lines}
use Rattle.job_grammar.specs.Rendering.{job_text_lem}
use Rattle.job_grammar.specs.Valid.{ValidText}
use Rattle.job_grammar.proofs.Optionals.{idle_steps_lem2}
use Rattle.job_grammar.proofs.Accepted.{valid_text}
use Rattle.carry.specs.Carry.{Log, passed, Logged, Lasts, Accepts, later, carried}
use Rattle.carry.specs.Start.{continued_by}
use Rattle.carry.specs.Joined.{joined_log}
use Rattle.carry.proofs.Later.{later-later}
use Rattle.carry.proofs.Lives.{past}
use Rattle.carry.proofs.Parts.{Done, logged_done}
use Rattle.carry.proofs.Joined.{past_joined, openings_joined, part_joined, joined_logged, joined_accepts}
use Rattle.log_grammar.specs.Grammar.{log_of, read_log}
use Rattle.log_grammar.specs.Rendering.{log_says, joined_text}
use Rattle.log_grammar.proofs.Logs.{log_tells, says_log}
use Rattle.log_grammar.proofs.Joined.{joined_read}
use Rattle.job_grammar.specs.Reading.{meant_job}
use Rattle.carry_texts.specs.Carried.{quoted, carried_part_lines, carried_text}
use Rattle.carry_texts.specs.Carries.{Carries, job_in, done_in, joined_lines}
use Rattle.carry_texts.proofs.Carried.{means_carried, carried_read}

-- ---- the new text

module _ (t : JobText) (v : ValidText t) (first second : Log) (logged : Logged (meant_job t) first) (again : Logged (carried (meant_job t) first) second)
    (accepts : Accepts (meant_job t) first) (accepts-again : Accepts (carried (meant_job t) first) second) where
  abbrev job : Job
  job = meant_job t

  abbrev n : ℕ
  n = length t.openings

  abbrev next : Job
  next = carried job first

  abbrev joint : Log
  joint = joined_log job first second

  -- a part's lines
  parts_same : (m : ℕ) (ps : List PartText) (cs ds : List (List Bool)) → Each (Done job first) (map (meant_part n) ps) cs → Each (Lasts job first.step) (map (meant_part n) ps) cs
      → carried_part_lines m next second.step (carried_part_lines n job first.step ps cs) ds ≡ carried_part_lines n job (first.step + second.step) ps (continued_by (past job first) cs ds)
  unfolding carried_part_lines
  parts_same m [] [] ds h l = refl
  parts_same m [] (c ∷ cs) ds h l = absurd h
  parts_same m (p ∷ ps) [] ds h l = absurd h
  parts_same m (p ∷ ps) (c ∷ cs) ds h l =
      let same = part_joined job first second v.means.job.rising (meant_part n p) c (get_or ds 0 []) h.0 l.0.by_step in
      let rest = parts_same m ps cs (drop 1 ds) h.1 l.1 in
      let ps : by_list (drop (passed next second.step) (drop (past job first) (quoted n p.prices))) ≡ by_list (drop (past job joint) (quoted n p.prices)) =
      ap by_list (drop-drop (passed next second.step) (past job first) (quoted n p.prices) ∙ ap (λ (k : ℕ). drop k (quoted n p.prices)) (sym (past_joined job first second))) in
      λ i. record { life = p.life; left = (same i).left; cover = p.cover; prices = ps i } ∷ rest i

  -- what the two texts say
  says_same : carried_text (carried_text t first) second ≡ carried_text t joint
  says_same =
      let h : t.horizon - first.step - second.step ≡ t.horizon - (first.step + second.step) = omega arith in
      let is = ap (λ (is : List ℕ). idle_lines (later second.step is)) (sym (idle_steps_lem2 (later first.step (idle_in t.idles)))) ∙ ap idle_lines (later-later first.step second.step (idle_in t.idles)) in
      let os = openings_joined job first second in
      let m = length (carried_text t first).openings in
      let ps = ap (λ (j : Job). carried_part_lines m j second.step (carried_part_lines n job first.step t.parts first.plan.changes) second.plan.changes) (means_carried t first v)
      ∙ parts_same m t.parts first.plan.changes second.plan.changes (logged_done job first logged) accepts.lives in
      λ i. record { horizon = h i; idles = is i; walk = None; openings = os i; parts = ps i }

  -- E13.1. "give the identical job text"
  pub same_text : job_text_lem (carried_text (carried_text t first) second) ≡ job_text_lem (carried_text t joint)
  same_text = ap job_text_lem says_same

-- ---- E13.1. "If carrying on by a first log and then by a second is accepted both times, carrying on by the joined log shall be accepted and give the identical job text."

-- two logs carried on by in turn give the text that the joined log gives
pub two_or_one : {job first next second last : List ℕ} (a : Carries job first next) (b : Carries next second last)
    → ((plan : Plan) → cost_of_lem (job_in a) plan ≤ 4000000000) → Carries job (joined_lines a b) last
two_or_one {job = text} {second = second} {last = last} a b most =
    let v = valid_text _ a.text a.job_read in
    let ok = v.means.job in
    let over = job_in a in
    let first = done_in a in
    let logged = (log_tells over ok _ a.said a.log_read).logged in
    -- the second job text is the one written: so it says what was carried over, and means the new job
    let said : b.text ≡ carried_text a.text first = one_value (carried_read a.text first v logged) (ap read_job_text (sym a.gives) ∙ b.job_read) in
    let means : job_in b ≡ carried over first = ap meant_job said ∙ means_carried a.text first v in
    let valid-next = subst ValidJob means (valid_text _ b.text b.job_read).means.job in
    let read = ap (λ (j : Job). read_log j second) (sym means) ∙ b.log_read in
    let then : Log = log_of (carried over first) b.said in
    let same : done_in b ≡ then = ap (λ (j : Job). log_of j b.said) means in
    let again = (log_tells (carried over first) valid-next second b.said read).logged in
    let accepts = subst (Accepts (carried over first)) same (subst (λ (j : Job). Accepts j (done_in b)) means b.accepts) in
    let joint = joined_accepts over first then ok.rising logged again a.accepts accepts in
    let both = joined_log over first then in
    let is : log_of over (log_says over both) ≡ both = says_log over both (joined_logged over first then ok.rising logged again) in
    subst (λ (s : List ℕ). Carries text s last) (ap (joined_text over first) (sym same))
    (record {
      text = a.text;
      said = log_says over both;
      job_read = a.job_read;
      log_read = joined_read over first then ok.rising logged again ok (omega (arith, joint.true_cost_lem, most both.plan));
      accepts = subst (Accepts over) (sym is) joint;
      gives = b.gives
          ∙ ap (λ (t : JobText). job_text_lem (carried_text t (log_of (meant_job t) b.said))) said
          ∙ ap (λ (l : Log). job_text_lem (carried_text (carried_text a.text first) l)) (ap (λ (j : Job). log_of j b.said) (means_carried a.text first v))
          ∙ same_text a.text v first then logged again a.accepts accepts
          ∙ ap (λ (l : Log). job_text_lem (carried_text a.text l)) (sym is);
    })
