-- The lives up to the log's step as code goes through them: on the openings that are past, the step's position stands for the end, and a due step is the whole job's. The same as the judge's on the job as far as the
-- step (`judged_until`); and what is left of a part is told by the same openings (`unused_front`, `left_front`).
use mathlib.Core.Path.{◌≡◌, refl, sym, ap, ap₂, ◌∙◌}
use mathlib.Core.Bool.{Bool, true, false, cond, false≢true}
use mathlib.Core.List.{List, [], ◌∷◌, map}
use Prim.Native.Nat.{ℕ, zero, suc, ◌+◌, ◌<◌}
use native.Mathlib.Omega.{arith}
use lib.ListN.{length, get_or, take}
use lib.IntN.{ℤ, pos, ◌-ℤ◌}
use Rattle.model.specs.Model.{Part, Job, clock, positions, last_change_lem, within, last_within_lem, due_of_lem, select, Each}
use Rattle.model.specs.Verdict.{Gaps, in_time_lem2, too_long, first_late, late_of, last_of, ruled, verdict_from, judged, judged_of, no_part, part_at, changes_at}
use Rattle.model.proofs.Dues.{Every}
use Rattle.model.proofs.Verdicts.{each_at}
use Rattle.base.proofs.Lists.{map_at}
use Rattle.plan_lives.specs.Steps.{gaps_to, late_to_lem, lowest_late}
use Rattle.carry.specs.Carry.{Log, passed, Logged, unused, natural}
use Rattle.carry.specs.Answer.{until}
use Rattle.carry.proofs.Parts.{Done, logged_done}
use Rattle.carry.proofs.Passed.{Early, changes_early}
use Rattle.carry.proofs.Answers.{due_until, end-until, at-step}
use Rattle.carry.proofs.Kin.{cost_until}
use Rattle.carry.proofs.Lives.{past_most}
use Rattle.log_grammar.specs.Grammar.{part_to, job_to}
use Rattle.log_grammar.specs.Rendering.{plan_front}
use Rattle.log_grammar.proofs.Done.{positions_front, cost_front}
use Rattle.log_lives.specs.Done.{judged_to, left_at}

-- ---- one part, on the job as far as the step

module _ (job : Job) (log : Log) (logged : Logged job log) where
  abbrev before : Job
  before = until job log.step

  -- a gap that ends up to the log's step
  one_gap : (life prev z : ℤ) (g : Gaps) → Early job log z → cond (within life prev z) g (too_long (due_of_lem before life prev)) ≡ cond (within life prev z) g (too_long (due_of_lem job life prev))
  one_gap life prev z g h = go (within life prev z) refl
    where
      go : (b : Bool) → within life prev z ≡ b → cond b g (too_long (due_of_lem before life prev)) ≡ cond b g (too_long (due_of_lem job life prev))
      go true e = refl
      go false e = ap too_long (due_until job log.step life prev logged.step_low (omega (arith, logged.step_high)) (at-step job log life prev z e h)).0

  gaps_until : (life prev : ℤ) (ss : List ℤ) → Every (Early job log) ss → first_late before life prev ss ≡ gaps_to job (clock job log.step) life prev ss
  unfolding first_late gaps_to
  gaps_until life prev [] h = rw (end-until job log.step logged.step_low) (one_gap life prev (clock job log.step) in_time_lem2 (omega arith))
  gaps_until life prev (s ∷ ss) h =
      one_gap life prev s (first_late before life s ss) h.0 ∙ ap (λ (g : Gaps). cond (within life prev s) g (too_long (due_of_lem job life prev))) (gaps_until life s ss h.1)

  -- a part's gaps
  late_until : (part : Part) (c : List Bool) → Done job log part c → late_of before part c ≡ gaps_to job (clock job log.step) (pos part.life) (last_change_lem part) (select (positions job) c)
  unfolding clock
  late_until part c d = gaps_until (pos part.life) (last_change_lem part) (select (positions job) c) (changes_early job log part c d)

-- ---- on the openings that are past

module _ (job : Job) (n : ℕ) (life : ℤ) where
  last_front : (prev : ℤ) (t : ℕ) → last_within_lem (job_to n job) life prev t ≡ last_within_lem job life prev t
  unfolding last_within_lem clock
  last_front prev zero = refl
  last_front prev (suc t) = ap (cond (within life prev (clock job (suc t))) (suc t)) (last_front prev t)

  due_front : (prev : ℤ) → due_of_lem (job_to n job) life prev ≡ due_of_lem job life prev
  unfolding due_of_lem
  due_front prev = last_front prev job.horizon

  gaps_front : (to prev : ℤ) (ss : List ℤ) → gaps_to (job_to n job) to life prev ss ≡ gaps_to job to life prev ss
  unfolding gaps_to
  gaps_front to prev [] = ap (λ (d : ℕ). cond (within life prev to) in_time_lem2 (too_long d)) (due_front prev)
  gaps_front to prev (s ∷ ss) = ap₂ (λ (g : Gaps) (d : ℕ). cond (within life prev s) g (too_long d)) (gaps_front to s ss) (due_front prev)

-- no part is changed later
each_over : (job : Job) (log : Log) (ps : List Part) (cs : List (List Bool)) → Each (Done job log) ps cs → (i k : ℕ) → get_or (get_or cs i []) k false ≡ true → k < passed job log.step
each_over job log [] [] d i k e = absurd (false≢true e)
each_over job log [] (c ∷ cs) d i k e = absurd d
each_over job log (p ∷ ps) [] d i k e = absurd d
each_over job log (p ∷ ps) (c ∷ cs) d zero k e = d.0.over k e
each_over job log (p ∷ ps) (c ∷ cs) d (suc i) k e = each_over job log ps cs d.1 i k e

module _ (job : Job) (log : Log) (logged : Logged job log) where
  abbrev n : ℕ
  n = passed job log.step

  abbrev past : Job
  past = job_to n job

  abbrev now : ℤ
  now = clock job log.step

  late_front : (part : Part) (c : List Bool) → Done job log part c → late_of (until job log.step) part c ≡ late_to_lem past now (part_to n part) (take n c)
  late_front part c d =
      late_until job log logged part c d
      ∙ ap (gaps_to job now (pos part.life) (last_change_lem part)) (sym (positions_front job n c d.over))
      ∙ sym (gaps_front job n (pos part.life) now (last_change_lem part) (select (positions past) (take n c)))

  lowest_front : (k : ℕ) (ps : List Part) (cs : List (List Bool)) → Each (Done job log) ps cs → verdict_from (until job log.step) k ps cs ≡ lowest_late (late_to_lem past now) k (map (part_to n) ps) (map (take n) cs)
  unfolding verdict_from lowest_late
  lowest_front k [] [] d = refl
  lowest_front k [] (c ∷ cs) d = absurd d
  lowest_front k (p ∷ ps) [] d = absurd d
  lowest_front k (p ∷ ps) (c ∷ cs) d = ap₂ (ruled k) (late_front p c d.0) (lowest_front (k + 1) ps cs d.1)

  -- the judgement on the log is that on its plan at the openings that are past
  pub judged_until : judged_of (until job log.step) log.cost log.plan ≡ judged_to past log.step log.cost (plan_front n log.plan)
  unfolding judged_of clock
  judged_until =
      ap₂ (judged log.cost)
      (cost_until job log.step log.plan ∙ sym (cost_front job n log.plan (past_most job log) logged.stopped early))
      (lowest_front 1 job.parts log.plan.changes (logged_done job log logged))
    where
      early : (i k : ℕ) → get_or (get_or log.plan.changes i []) k false ≡ true → k < n
      early i k e = each_over job log job.parts log.plan.changes (logged_done job log logged) i k e

  -- what is left of a part
  pub unused_front : (part : Part) (c : List Bool) → Done job log part c → unused past log.step (part_to n part) (take n c) ≡ unused job log.step part c
  unfolding clock
  unused_front part c d = ap (λ (ss : List ℤ). pos part.life -ℤ (now -ℤ last_of (last_change_lem part) ss)) (positions_front job n c d.over)

  -- what is left of the part at a place
  pub left_front : (i : ℕ) → i < length job.parts → left_at past log.step (plan_front n log.plan) i ≡ natural (unused job log.step (part_at job i) (changes_at log.plan i))
  left_front i h =
      let d = logged_done job log logged in
      let p = map_at (part_to n) job.parts i no_part no_part h in
      let c = map_at (take n) log.plan.changes i [] [] (omega (arith, h, logged.shaped.parts)) in
      ap₂ (λ (q : Part) (e : List Bool). natural (unused past log.step q e)) p c ∙ ap natural (unused_front (part_at job i) (changes_at log.plan i) (each_at (Done job log) job.parts log.plan.changes d i h))
