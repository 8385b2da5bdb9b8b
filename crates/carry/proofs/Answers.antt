-- The call's answer keeps its promise, and no other does: the judge's verdict on the job as far as the log's step is that no part had used more than its life, and its due step is the whole job's.
use mathlib.Core.Path.{◌≡◌, refl, sym, ap, subst, ◌∙◌}
use mathlib.Core.Bool.{Bool, true, false, cond, false≢true}
use mathlib.Core.List.{List, ◌++◌}
use mathlib.Core.Logic.{◌↔◌}
use Prim.Native.Nat.{ℕ, zero, suc, ◌+◌, ◌-◌, ◌≤◌, ◌<◌}
use native.Mathlib.Omega.{arith}
use lib.ListN.{length}
use lib.IntN.{ℤ, pos}
use Rattle.model.specs.Model.{Part, Job, clock, end, positions, last_change_lem, within, kept, kept_by, last_within_lem, due_of_lem, select, Each}
use Rattle.model.specs.Verdict.{Judgement, accepts, unkept, wrong_cost, judged_of, part_at, changes_at, AllKept, last_of, next_of, LowestUnkept, JudgementPromise}
use Rattle.model.proofs.Positions.{never_falls, within_earlier, last_most}
use Rattle.model.proofs.Dues.{Every, every_back, every_next}
use Rattle.model.proofs.Verdicts.{judge, judge_only, each_at, at_each}
use Rattle.carry.specs.Carry.{Log, Logged, Lasts, Accepts, carried, AllLast}
use Rattle.carry.specs.Answer.{until, CarryAnswer, goes_on, refused, carry_answered, answer_to}
use Rattle.carry.specs.Promise.{LowestUsedUp, LogPromise}
use Rattle.carry.proofs.Gaps.{kept_last}
use Rattle.carry.proofs.Parts.{Done, logged_done}
use Rattle.carry.proofs.Kin.{cost_until}
use Rattle.carry.proofs.Passed.{Early, changes_early}

-- ---- the due step

module _ (job : Job) (step : ℕ) (life prev : ℤ) where
  last_until : (t : ℕ) → last_within_lem (until job step) life prev t ≡ last_within_lem job life prev t
  unfolding last_within_lem clock
  last_until zero = refl
  last_until (suc t) = ap (cond (within life prev (clock job (suc t))) (suc t)) (last_until t)

  -- what is too late at a step is too late at every later one
  last_late : within life prev (clock job step) ≡ false → (t d : ℕ) → step ≤ suc t → last_within_lem job life prev (t + d) ≡ last_within_lem job life prev t
  unfolding last_within_lem
  last_late e t zero h = let z : t + 0 ≡ t = omega arith in ap (last_within_lem job life prev) z
  last_late e t (suc d) h =
      let z : t + suc d ≡ suc (t + d) = omega arith in
      ap (last_within_lem job life prev) z ∙ ap (λ (b : Bool). cond b (suc (t + d)) (last_within_lem job life prev (t + d))) (late (within life prev (clock job (suc (t + d)))) refl) ∙ last_late e t d h
    where
      late : (b : Bool) → within life prev (clock job (suc (t + d))) ≡ b → within life prev (clock job (suc (t + d))) ≡ false
      late true f = absurd (false≢true (sym e ∙ within_earlier life prev (clock job step) (clock job (suc (t + d))) (never_falls job step (suc (t + d)) (omega arith)) f))
      late false f = f

  -- the step's own late: the job as far as the step and the whole job have the same due step, and it is before the step
  pub due_until : 1 ≤ step → step ≤ job.horizon → within life prev (clock job step) ≡ false → (due_of_lem (until job step) life prev ≡ due_of_lem job life prev) × (due_of_lem job life prev < step)
  unfolding due_of_lem
  due_until one h e =
      let t = step - 1 in
      let z : t + (job.horizon - t) ≡ job.horizon = omega arith in
      let same = last_late e t (job.horizon - t) (omega arith) in
      let back = sym (ap (last_within_lem job life prev) z) ∙ same in
      (last_until t ∙ sym back, omega (arith, back, last_most job life prev t))

-- ---- one part

-- the job as far as a step ends at that step's position
pub end-until : (job : Job) (step : ℕ) → 1 ≤ step → end (until job step) ≡ clock job step
unfolding clock
end-until job step one = let z : step - 1 + 1 ≡ step = omega arith in ap (clock job) z

-- what is too late up to the log's step is too late at the step
pub at-step : (job : Job) (log : Log) (life prev z : ℤ) → within life prev z ≡ false → Early job log z → within life prev (clock job log.step) ≡ false
at-step job log life prev z f m = go (within life prev (clock job log.step)) refl
  where
    go : (b : Bool) → within life prev (clock job log.step) ≡ b → within life prev (clock job log.step) ≡ false
    go true t = absurd (false≢true (sym f ∙ within_earlier life prev z (clock job log.step) m t))
    go false t = t

module _ (job : Job) (log : Log) (logged : Logged job log) where
  lasts_kept : (part : Part) (c : List Bool) → Lasts job log.step part c ↔ (kept_by (until job log.step) part c ≡ true)
  unfolding clock
  lasts_kept part c =
      let r = kept_last (pos part.life) (clock job log.step) (last_change_lem part) (select (positions job) c) in
      let e = ap (λ (z : ℤ). kept (pos part.life) z (last_change_lem part) (select (positions job) c)) (end-until job log.step logged.step_low) in (
        (λ l. e ∙ r.1 (l.between, l.by_step)),
        (λ k. let x = r.0 (sym e ∙ k) in record { between = x.0; by_step = x.1 }),
      )

  did : Each (Done job log) job.parts log.plan.changes
  did = logged_done job log logged

  last_kept : AllLast job log ↔ AllKept (until job log.step) log.plan
  last_kept = (
    (λ l i h. (lasts_kept (part_at job i) (changes_at log.plan i)).0 (each_at (Lasts job log.step) job.parts log.plan.changes l i h)),
    (λ k. at_each (Lasts job log.step) job.parts log.plan.changes logged.shaped.parts (λ i h. (lasts_kept (part_at job i) (changes_at log.plan i)).1 (k i h))),
  )

  -- a gap up to the step is too long: then so is one at the step, and the due step is the whole job's
  gap_due : (i : ℕ) → i < length job.parts → (before after : List ℤ) → select (positions job) (changes_at log.plan i) ≡ before ++ after
      → (life prev : ℤ) → within life prev (next_of (clock job log.step) after) ≡ false
      → (due_of_lem (until job log.step) life prev ≡ due_of_lem job life prev) × (due_of_lem job life prev < log.step)
  gap_due i h before after split life prev over =
      let to = clock job log.step in
      let early = subst (Every (Early job log)) split (changes_early job log (part_at job i) (changes_at log.plan i) (each_at (Done job log) job.parts log.plan.changes did i h)) in
      let late = at-step job log life prev (next_of to after) over (every_next (Early job log) to after (omega arith) (every_back (Early job log) before after early)) in
      due_until job log.step life prev logged.step_low (omega (arith, logged.step_high)) late

  -- the judge's lowest part is the lowest that had used more than its life
  used_up : (p d : ℕ) → LowestUnkept (until job log.step) log.plan p d → LowestUsedUp job log p d
  unfolding clock
  used_up p d x =
      let part = part_at job x.place in
      let g = x.gap in
      let prev = last_of (last_change_lem part) g.before in
      let over = ap (λ (z : ℤ). within (pos part.life) prev (next_of z g.after)) (sym (end-until job log.step logged.step_low)) ∙ g.over_life in
      let due = gap_due x.place x.is_part g.before g.after g.split (pos part.life) prev over in
      record {
        place = x.place;
        number = x.number;
        is_part = x.is_part;
        lowest = λ i h. (lasts_kept (part_at job i) (changes_at log.plan i)).1 (x.lowest i h);
        gap = record { before = g.before; after = g.after; split = g.split; in_life = g.in_life; over_life = over; is_due = g.is_due ∙ due.0 };
        due_before = omega (arith, g.is_due, due.0, due.1);
      }

  used_up_only : (p d : ℕ) → LowestUsedUp job log p d → LowestUnkept (until job log.step) log.plan p d
  unfolding clock
  used_up_only p d x =
      let part = part_at job x.place in
      let g = x.gap in
      let prev = last_of (last_change_lem part) g.before in
      let due = gap_due x.place x.is_part g.before g.after g.split (pos part.life) prev g.over_life in
      record {
        place = x.place;
        number = x.number;
        is_part = x.is_part;
        lowest = λ i h. (lasts_kept (part_at job i) (changes_at log.plan i)).0 (x.lowest i h);
        gap = record {
          before = g.before;
          after = g.after;
          split = g.split;
          in_life = g.in_life;
          over_life = ap (λ (z : ℤ). within (pos part.life) prev (next_of z g.after)) (end-until job log.step logged.step_low) ∙ g.over_life;
          is_due = g.is_due ∙ sym due.0;
        };
      }

  -- ---- the answer

  promised : (j : Judgement) → JudgementPromise (until job log.step) log.cost log.plan j → LogPromise job log (carry_answered (carried job log) j)
  promised (accepts cost) x =
      let h = x.says_0.0 refl in
      let l = last_kept.1 h.0 in
      let c = h.1 ∙ cost_until job log.step log.plan in
      record {
        says_0 = ((λ _. record { lives = l; true_cost_lem = c }), λ _. refl);
        says_10 = ((λ q. absurd (omega arith)), λ f. absurd (f l));
        says_11 = ((λ q. absurd (omega arith)), λ f. absurd (f.1 c));
        values = refl;
      }
  promised (unkept part due) x =
      let h = x.says_10.0 refl in
      record {
        says_0 = ((λ q. absurd (omega arith)), λ a. absurd (h (last_kept.0 a.lives)));
        says_10 = ((λ _ l. h (last_kept.0 l)), λ _. refl);
        says_11 = ((λ q. absurd (omega arith)), λ f. absurd (h (last_kept.0 f.0)));
        values = used_up part due x.values;
      }
  promised (wrong_cost cost) x =
      let h = x.says_11.0 refl in
      let l = last_kept.1 h.0 in
      let e = cost_until job log.step log.plan in
      record {
        says_0 = ((λ q. absurd (omega arith)), λ a. absurd (h.1 (a.true_cost_lem ∙ sym e)));
        says_10 = ((λ q. absurd (omega arith)), λ f. absurd (f l));
        says_11 = ((λ _. (l, λ c. h.1 (c ∙ sym e))), λ _. refl);
        values = x.values ∙ e;
      }

  -- the call's answer to a job and a log keeps all that is promised of it
  pub log_promise : LogPromise job log (answer_to job log)
  log_promise = promised (judged_of (until job log.step) log.cost log.plan) (judge (until job log.step) log.plan log.cost)

  -- an accepted log gives the new job
  pub accepted_goes_on : Accepts job log → answer_to job log ≡ goes_on (carried job log)
  accepted_goes_on a = go (judged_of (until job log.step) log.cost log.plan) log_promise
    where
      go : (j : Judgement) → LogPromise job log (carry_answered (carried job log) j) → carry_answered (carried job log) j ≡ goes_on (carried job log)
      go (accepts cost) x = refl
      go (unkept part due) x = absurd (omega (arith, x.says_0.1 a))
      go (wrong_cost cost) x = absurd (omega (arith, x.says_0.1 a))

  -- and no other answer keeps the promise
  pub log_only : (a : CarryAnswer) → LogPromise job log a → a ≡ answer_to job log
  log_only (goes_on next) x = ap goes_on x.values ∙ sym (accepted_goes_on (x.says_0.0 refl))
  log_only (refused (accepts cost)) x = absurd x.values
  log_only (refused (unkept part due)) x =
      let h = x.says_10.0 refl in
      ap (carry_answered (carried job log)) (judge_only (until job log.step) log.plan log.cost (unkept part due) (record {
        says_0 = ((λ q. absurd (omega arith)), λ k. absurd (h (last_kept.1 k.0)));
        says_10 = ((λ _ k. h (last_kept.1 k)), λ _. refl);
        says_11 = ((λ q. absurd (omega arith)), λ k. absurd (h (last_kept.1 k.0)));
        values = used_up_only part due x.values;
      }))
  log_only (refused (wrong_cost cost)) x =
      let h = x.says_11.0 refl in
      let k = last_kept.0 h.0 in
      let e = cost_until job log.step log.plan in
      ap (carry_answered (carried job log)) (judge_only (until job log.step) log.plan log.cost (wrong_cost cost) (record {
        says_0 = ((λ q. absurd (omega arith)), λ f. absurd (h.1 (f.1 ∙ e)));
        says_10 = ((λ q. absurd (omega arith)), λ f. absurd (f k));
        says_11 = ((λ _. (k, λ f. h.1 (f ∙ e))), λ _. refl);
        values = x.values ∙ sym e;
      }))
