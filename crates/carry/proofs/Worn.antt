-- E12.4. "From here on `left` may be 0: change before the next running step; if step 1 runs, `due` is then 0." What a part with nothing left means: its due step (`worn_due`, `worn_due_0`, of the judge's report `judge_worn`),
-- and that where step 1 runs no change set keeps it (`worn_late`, `worn_no_plan`).
use mathlib.Core.Path.{◌≡◌, refl, sym, ap, subst, ◌∙◌}
use mathlib.Core.Bool.{Bool, true, false, false≢true}
use mathlib.Core.List.{List, [], ◌∷◌, map}
use mathlib.Core.Logic.{◌↔◌}
use Prim.Native.Nat.{ℕ, ◌+◌, ◌≤◌, ◌<◌}
use native.Mathlib.Omega.{arith}
use native.Mathlib.Decide.{dec_le}
use lib.ListN.{length}
use lib.IntN.{ℤ, pos}
use Rattle.model.specs.Model.{Opening, Part, Job, Plan, HasPlan, listed, running, clock, positions, end, last_change_lem, within, due_of_lem, select}
use Rattle.model.specs.Windows.{Rising, steps_of}
use Rattle.model.specs.Verdict.{Gaps, in_time_lem2, too_long, first_late, late_of, part_at, changes_at, last_of, AllWithin, LowestUnkept}
use Rattle.model.specs.Due.{late_part}
use Rattle.model.proofs.Verdicts.{in_time_is, lives_kept}
use Rattle.base.proofs.Integers.{AtMostℤ, difference}
use Rattle.model.proofs.Positions.{never_falls, near, near_within, due_last, due_most}
use Rattle.model.proofs.Dues.{Every, every_select, every_front}

module _ (job : Job) (part : Part) (worn : part.left ≡ 0) where
  abbrev life : ℤ
  life = pos part.life

  -- a change keeps the part only at a step up to which nothing runs
  worn_within : (s : ℕ) → (within life (last_change_lem part) (clock job s) ≡ true) ↔ (running job.idles s ≡ 0)
  unfolding clock
  worn_within s =
      let d = difference (pos part.left) life in (
        (λ e. omega (arith, near life (last_change_lem part) (pos (running job.idles s)) e, d, worn)),
        (λ e. near_within life (last_change_lem part) (pos (running job.idles s)) (omega (arith, d, worn, e))),
      )

  -- "change before the next running step": the due step is the last before which nothing runs
  pub worn_due : (s : ℕ) → s ≤ job.horizon → (s ≤ due_of_lem job life (last_change_lem part)) ↔ (running job.idles s ≡ 0)
  worn_due s h =
      let r = due_last job life (last_change_lem part) (omega (arith, difference (pos part.left) life)) s h in
      let w = worn_within s in
      ((λ l. w.0 (r.1 l)), λ e. r.0 (w.1 e))

  -- "if step 1 runs"
  module _ (runs : listed job.idles 1 ≡ false) where
    one_runs : running job.idles 1 ≡ 1
    unfolding running
    one_runs = rw runs

    -- "`due` is then 0"
    pub worn_due_0 : due_of_lem job life (last_change_lem part) ≡ 0
    worn_due_0 =
        let d = due_of_lem job life (last_change_lem part) in
        let most = due_most job life (last_change_lem part) (omega (arith, difference (pos part.left) life)) in
        go (dec_le 1 d) most
      where
        go : Dec (1 ≤ due_of_lem job life (last_change_lem part)) → due_of_lem job life (last_change_lem part) ≤ job.horizon → due_of_lem job life (last_change_lem part) ≡ 0
        go (yes l) m = absurd (omega (arith, (worn_due 1 (omega arith)).0 l, one_runs))
        go (no l) m = omega (arith, l)

    -- and no change set keeps the part: the judge says 10 with that due step
    module _ (T : ℕ) (rising : Rising 0 T (steps_of job.openings)) where
      from_one : (from : ℕ) (os : List Opening) → Rising from T (steps_of os) → Every (AtMostℤ (clock job 1)) (map (λ (o : Opening). clock job o.step) os)
      from_one from [] r = tt
      from_one from (o ∷ os) r = (never_falls job 1 o.step (omega (arith, r.0)), from_one o.step os r.2)

      late_there : (p : ℤ) → AtMostℤ (clock job 1) p → (b : Bool) → within life (last_change_lem part) p ≡ b → b ≡ false
      unfolding clock
      late_there p h true e = absurd (omega (arith, near life (last_change_lem part) p e, difference (pos part.left) life, worn, one_runs))
      late_there p h false e = refl

      pub worn_late : (changes : List Bool) → late_of job part changes ≡ too_long 0
      unfolding first_late
      worn_late changes = go (select (positions job) changes) (every_select (AtMostℤ (clock job 1)) (positions job) changes (from_one 0 job.openings rising))
        where
          go : (ss : List ℤ) → Every (AtMostℤ (clock job 1)) ss → first_late job life (last_change_lem part) ss ≡ too_long 0
          go [] h = rw (late_there (end job) (never_falls job 1 (job.horizon + 1) (omega arith)) (within life (last_change_lem part) (end job)) refl, worn_due_0)
          go (s ∷ ss) h = rw (late_there s h.0 (within life (last_change_lem part) s) refl, worn_due_0)

-- so the due step that the judge reports of such a part is 0
pub judge_worn : (job : Job) (plan : Plan) (part due T : ℕ) (r : LowestUnkept job plan part due) → (late_part r).left ≡ 0 → listed job.idles 1 ≡ false → Rising 0 T (steps_of job.openings) → due ≡ 0
judge_worn job plan part due T r worn runs rising = go r.gap.before r.gap.in_life r.gap.is_due (every_front After_1 r.gap.before r.gap.after (subst (Every After_1) r.gap.split late))
  where
    late_part_lem : Part
    late_part_lem = late_part r

    After_1 : ℤ → Type 0
    After_1 = AtMostℤ (clock job 1)

    late : Every After_1 (select (positions job) (changes_at plan r.place))
    late = every_select After_1 (positions job) (changes_at plan r.place) (from_one job late_part_lem worn runs T rising 0 job.openings rising)

    go : (before : List ℤ) → AllWithin (pos late_part_lem.life) (last_change_lem late_part_lem) before → due ≡ due_of_lem job (pos late_part_lem.life) (last_of (last_change_lem late_part_lem) before) → Every After_1 before → due ≡ 0
    go [] w e h = e ∙ worn_due_0 job late_part_lem worn runs
    go (s ∷ ss) w e h = absurd (false≢true (sym (late_there job late_part_lem worn runs T rising s h.0 (within (pos late_part_lem.life) (last_change_lem late_part_lem) s) refl) ∙ w.0))

-- so such a job has no plan, and the planner says 6
pub worn_no_plan : (job : Job) (i T : ℕ) → i < length job.parts → (part_at job i).left ≡ 0 → listed job.idles 1 ≡ false → Rising 0 T (steps_of job.openings) → HasPlan job → ⊥
worn_no_plan job i T l worn runs rising h =
    let z : ◌≡◌ {A = ℕ} 0 1 = ap told (sym ((in_time_is job (part_at job i) (changes_at h.0 i)).1 (lives_kept job h.0 h.1 i l)) ∙ worn_late job (part_at job i) worn runs T rising (changes_at h.0 i)) in
    absurd (omega arith)
  where
    told : Gaps → ℕ
    told in_time_lem2 = 0
    told (too_long due) = 1
