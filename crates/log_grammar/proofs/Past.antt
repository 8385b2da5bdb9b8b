-- The job with its first openings alone: it is valid where the job is, and a plan that stops at these alone is a plan of it, with the same lines.
use mathlib.Core.Path.{◌≡◌, refl, sym, ap, subst, ◌∙◌}
use mathlib.Core.Bool.{Bool, true, false, false≢true}
use mathlib.Core.List.{List, [], ◌∷◌, ◌++◌, map}
use Prim.Native.Nat.{ℕ, zero, suc, ◌+◌, ◌-◌, ◌≤◌, ◌<◌}
use native.Mathlib.Omega.{arith}
use lib.ListN.{length, length-map, length-replicate, length-append, get_or, take, drop, replicate, take-append-drop, length-drop}
use lib.Seq.{length-take-le, get_or-take, take-append_seam}
use Rattle.base.specs.Chosen.{chosen}
use Rattle.base.proofs.Chosen.{chosen_same, chosen_none_after}
use Rattle.model.specs.Model.{Opening, Part, Job, Plan}
use Rattle.model.specs.Windows.{Rising, steps_of}
use Rattle.model.specs.Verdict.{changes_at, Shaped}
use Rattle.base.proofs.Bools.{inside, none_set}
use Rattle.base.specs.Each.{All}
use Rattle.jobs.specs.Valid.{ValidOpening, ValidPrice, ValidPart, HeldFrom, ValidJob}
use Rattle.base.proofs.Lists.{map_at}
use Rattle.plan_grammar.specs.Rendering as plans
use Rattle.carry.proofs.Splits.{Quiet, quiet_after, map-take}
use Rattle.log_grammar.specs.Grammar.{part_to, job_to, padded}
use Rattle.log_grammar.specs.Rendering.{plan_front}

-- ---- sets of the first openings, and of all

-- a set that nothing is in says no at each of its places
pub quiet_is : (l : List Bool) → Quiet l → l ≡ replicate (length l) false
quiet_is [] q = refl
quiet_is (false ∷ l) q = ap (λ (r : List Bool). false ∷ r) (quiet_is l (λ k. q (suc k)))
quiet_is (true ∷ l) q = absurd (q 0 refl)

-- a set that has none from place n on is its front, padded
pub front_padded : (m n : ℕ) (l : List Bool) → length l ≡ m → n ≤ m → ((k : ℕ) → get_or l k false ≡ true → k < n) → padded m (take n l) ≡ l
front_padded m n l h fits q =
    let e : m - length (take n l) ≡ length (drop n l) = omega (arith, length-take-le n l (omega arith), length-drop n l) in
    ap (λ (k : ℕ). take n l ++ replicate k false) e
    ∙ ap (λ (r : List Bool). take n l ++ r) (sym (quiet_is (drop n l) (quiet_after l n q)))
    ∙ take-append-drop n l

-- a set of the first openings, as a set of all m, has m places
pub padded-length : (m : ℕ) (l : List Bool) → length l ≤ m → length (padded m l) ≡ m
padded-length m l h = omega (arith, length-append l (replicate (m - length l) false), length-replicate (m - length l) false)

-- a set of the first openings, as a set of all, has that set as its front
pub padded_front : (m : ℕ) (l : List Bool) → take (length l) (padded m l) ≡ l
padded_front m l = take-append_seam l (replicate (m - length l) false)

-- what it has, the set had
pub padded_had : (m : ℕ) (l : List Bool) (k : ℕ) → get_or (padded m l) k false ≡ true → get_or l k false ≡ true
padded_had m [] k e = absurd (none_set (m - 0) k e)
padded_had m (x ∷ l) zero e = e
padded_had m (x ∷ l) (suc k) e = go l (m - length (x ∷ l)) k e
  where
    go : (l : List Bool) (r k : ℕ) → get_or (l ++ replicate r false) k false ≡ true → get_or l k false ≡ true
    go [] r k e = absurd (none_set r k e)
    go (y ∷ l) r zero e = e
    go (y ∷ l) r (suc k) e = go l r k e

-- what is in a set of the first openings is in that set as one of all
pub padded_has : (m : ℕ) (l : List Bool) (k : ℕ) → get_or l k false ≡ true → get_or (padded m l) k false ≡ true
padded_has m l k e = go l (m - length l) k e
  where
    go : (l : List Bool) (r k : ℕ) → get_or l k false ≡ true → get_or (l ++ replicate r false) k false ≡ true
    go [] r k e = absurd (false≢true e)
    go (y ∷ l) r zero e = e
    go (y ∷ l) r (suc k) e = go l r k e

-- ---- the job

module _ (n : ℕ) where
  all_take : {A : Type 0} (P : A → Type 0) (n : ℕ) (l : List A) → All P l → All P (take n l)
  all_take P zero l h = tt
  all_take P (suc n) [] h = tt
  all_take P (suc n) (x ∷ l) h = (h.0, all_take P n l h.1)

  rising_take : (T n from : ℕ) (os : List Opening) → Rising from T (steps_of os) → Rising from T (steps_of (take n os))
  rising_take T zero from os r = tt
  rising_take T (suc n) from [] r = tt
  rising_take T (suc n) from (o ∷ os) r = (r.0, r.1, rising_take T n o.step os r.2)

  parts_to : (m : ℕ) (ps : List Part) → n ≤ m → All (ValidPart m) ps → All (ValidPart n) (map (part_to n) ps)
  parts_to m [] h v = tt
  parts_to m (p ∷ ps) h v = (
    record {
      life_low = v.0.life_low;
      life_high = v.0.life_high;
      left_high = v.0.left_high;
      removal = v.0.removal;
      few_holders = v.0.few_holders;
      priced = length-take-le n p.prices (omega (arith, v.0.priced));
      prices = all_take ValidPrice n p.prices v.0.prices;
    },
    parts_to m ps h v.1,
  )

  held_to : (m k : ℕ) (ps : List Part) → HeldFrom m k ps → HeldFrom m k (map (part_to n) ps)
  held_to m k [] v = tt
  held_to m k (p ∷ ps) v = (v.0, held_to m (suc k) ps v.1)

  module _ (job : Job) (fits : n ≤ length job.openings) where
    opening_count_lem2 : length (take n job.openings) ≡ n
    opening_count_lem2 = length-take-le n job.openings fits

    part_count : length (map (part_to n) job.parts) ≡ length job.parts
    part_count = length-map job.parts (part_to n)

    -- a valid job is valid with its first n openings alone
    pub to_valid : ValidJob job → ValidJob (job_to n job)
    to_valid v = record {
      horizon_low = v.horizon_low;
      horizon_high = v.horizon_high;
      few_idles = v.few_idles;
      idles = v.idles;
      few_openings = omega (arith, opening_count_lem2, v.few_openings);
      openings = all_take ValidOpening n job.openings v.openings;
      rising = rising_take job.horizon n 0 job.openings v.rising;
      some_part = omega (arith, part_count, v.some_part);
      few_parts = omega (arith, part_count, v.few_parts);
      parts = subst (λ (k : ℕ). All (ValidPart k) (map (part_to n) job.parts)) (sym opening_count_lem2) (parts_to (length job.openings) job.parts fits v.parts);
      holders = subst (λ (m : ℕ). HeldFrom m 1 (map (part_to n) job.parts)) (sym part_count) (held_to (length job.parts) 1 job.parts v.holders);
    }

    -- ---- a plan of the job that stops at these openings alone

    set_at : (plan : Plan) (i : ℕ) → i < length plan.changes → changes_at (plan_front n plan) i ≡ take n (changes_at plan i)
    set_at plan i h = map_at (take n) plan.changes i [] [] h

    module _ (plan : Plan) (shaped : Shaped job plan) where
      sets : length plan.changes ≡ length job.parts
      sets = shaped.parts

      -- a plan of the right shape, at the first n openings, has the shape of the job with these alone
      pub front_shaped : Shaped (job_to n job) (plan_front n plan)
      front_shaped = record {
        stops = length-take-le n plan.stops (omega (arith, shaped.stops)) ∙ sym opening_count_lem2;
        parts = length-map plan.changes (take n) ∙ shaped.parts ∙ sym part_count;
        sizes = λ i h.
            ap length (set_at plan i (omega (arith, part_count, sets)))
            ∙ length-take-le n (changes_at plan i) (omega (arith, shaped.sizes i (omega (arith, part_count)))) ∙ sym opening_count_lem2;
        at_stops = λ i k h e. stopped i k (omega (arith, part_count)) e;
      }
        where
          stopped : (i k : ℕ) → i < length job.parts → get_or (changes_at (plan_front n plan) i) k false ≡ true → get_or (take n plan.stops) k false ≡ true
          stopped i k h e =
              let f = ap (λ (c : List Bool). get_or c k false) (sym (set_at plan i (omega (arith, sets)))) ∙ e in
              let l : k < n = omega (arith, inside (take n (changes_at plan i)) k f, length-take-le n (changes_at plan i) (omega (arith, shaped.sizes i h))) in
              get_or-take n plan.stops k false l ∙ shaped.at_stops i k h (sym (get_or-take n (changes_at plan i) k false l) ∙ f)

      -- the same visits
      pub same_visits : ((k : ℕ) → get_or plan.stops k false ≡ true → k < n) → plans.visits_of (job_to n job) (plan_front n plan) ≡ plans.visits_of job plan
      unfolding plans.visits_of
      same_visits stopped =
          ap (chosen (λ i. get_or (take n plan.stops) i false) (plans.visit_at (job_to n job) (plan_front n plan))) opening_count_lem2
          ∙ chosen_same (λ i. get_or (take n plan.stops) i false) (λ i. get_or plan.stops i false) (plans.visit_at (job_to n job) (plan_front n plan)) (plans.visit_at job plan) n
          (λ i h. get_or-take n plan.stops i false h) visit_same
          ∙ sym (chosen_none_after (λ i. get_or plan.stops i false) (plans.visit_at job plan) n (length job.openings) fits (λ j h _. quiet j h (get_or plan.stops j false) refl))
        where
          quiet : (j : ℕ) → n ≤ j → (b : Bool) → get_or plan.stops j false ≡ b → get_or plan.stops j false ≡ false
          quiet j h true e = absurd (omega (arith, stopped j e))
          quiet j h false e = e

          step_same : (i : ℕ) → i < n → plans.step_at (job_to n job) i ≡ plans.step_at job i
          step_same i h = ap (λ (l : List ℕ). get_or l i 0) (map-take (λ (o : Opening). o.step) n job.openings) ∙ get_or-take n (steps_of job.openings) i 0 h

          change_same : (i : ℕ) → i < n → (k : ℕ) → k < length plan.changes → plans.is_changed_lem (plan_front n plan) i k ≡ plans.is_changed_lem plan i k
          change_same i h k l = ap (λ (c : List Bool). get_or c i false) (set_at plan k l) ∙ get_or-take n (changes_at plan k) i false h

          parts_same : (i : ℕ) → i < n → plans.parts_at (plan_front n plan) i ≡ plans.parts_at plan i
          parts_same i h =
              ap (chosen (plans.is_changed_lem (plan_front n plan) i) (λ k. k + 1)) (length-map plan.changes (take n))
              ∙ chosen_same (plans.is_changed_lem (plan_front n plan) i) (plans.is_changed_lem plan i) (λ k. k + 1) (λ k. k + 1) (length plan.changes) (change_same i h) (λ k _. refl)

          visit_same : (i : ℕ) → i < n → plans.visit_at (job_to n job) (plan_front n plan) i ≡ plans.visit_at job plan i
          visit_same i h = let s = step_same i h in let p = parts_same i h in λ j. record { step = s j; parts = p j }
