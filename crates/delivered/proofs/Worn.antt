-- E12.4. A plan that keeps the lives changes a part with nothing left before the next running step (`changed_early`). By the part's first change, or the end where it has none.
use mathlib.Core.Path.{◌≡◌, refl, subst}
use mathlib.Core.Bool.{Bool, true, false, and-eq-true_iff}
use mathlib.Core.List.{List, [], ◌∷◌, map}
use Prim.Native.Nat.{ℕ, suc, ◌+◌, ◌<◌}
use native.Mathlib.Omega.{arith}
use lib.ListN.{length, get_or}
use lib.IntN.{ℤ, pos}
use Rattle.base.proofs.Integers.{difference}
use Rattle.model.specs.Model.{Opening, Part, Job, Plan, running, clock, end, last_change_lem, within, kept, select, KeepsLives}
use Rattle.model.specs.Windows.{Rising}
use Rattle.model.specs.Verdict.{part_at, changes_at}
use Rattle.model.proofs.Verdicts.{lives_kept}
use Rattle.model.proofs.Positions.{near}
use Rattle.model.proofs.Windows.{end_runs}
use Rattle.plan_grammar.specs.Rendering.{step_at}

module _ (job : Job) (part : Part) (worn : part.left ≡ 0) (rising : Rising 0 job.horizon job.idles) where
  -- a change that is in time is at a step up to which nothing runs
  early : (n : ℕ) → within (pos part.life) (last_change_lem part) (pos n) ≡ true → n ≡ 0
  early n e = omega (arith, near (pos part.life) (last_change_lem part) (pos n) e, difference (pos part.left) (pos part.life), worn)

  -- the end is not in time
  end_late : {X : Type 0} → within (pos part.life) (last_change_lem part) (end job) ≡ true → X
  end_late e =
      let z : running job.idles job.horizon + 1 ≡ 0 = early (running job.idles job.horizon + 1) (subst (λ (p : ℤ). within (pos part.life) (last_change_lem part) p ≡ true) (end_runs job rising) e) in
      absurd (omega (arith, z))

  -- a change at one of these openings up to whose step nothing runs
  abbrev Early : List Opening → List Bool → Type 0
  Early os cs = (k : ℕ) × (get_or cs k false ≡ true) × (running job.idles (get_or (map (λ (o : Opening). o.step) os) k 0) ≡ 0)

  -- the first change
  first_early : (os : List Opening) (cs : List Bool) → kept (pos part.life) (end job) (last_change_lem part) (select (map (λ (o : Opening). clock job o.step) os) cs) ≡ true → Early os cs
  unfolding select kept clock
  first_early [] cs e = end_late e
  first_early (o ∷ os) [] e = end_late e
  first_early (o ∷ os) (false ∷ cs) e = let r = first_early os cs e in (suc r.0, r.1, r.2)
  first_early (o ∷ os) (true ∷ cs) e =
      let both = (and-eq-true_iff (within (pos part.life) (last_change_lem part) (clock job o.step)) (kept (pos part.life) (end job) (clock job o.step) (select (map (λ (o : Opening). clock job o.step) os) cs))).0 e in
      (0, refl, early (running job.idles o.step) both.0)

-- so in a plan that keeps the lives
pub changed_early : (job : Job) → Rising 0 job.horizon job.idles → (plan : Plan) (i : ℕ) → i < length job.parts → (part_at job i).left ≡ 0 → KeepsLives job plan
    → (k : ℕ) × (get_or (changes_at plan i) k false ≡ true) × (running job.idles (step_at job k) ≡ 0)
changed_early job rising plan i h worn keeps = first_early job (part_at job i) worn rising job.openings (changes_at plan i) (lives_kept job plan keeps i h)
