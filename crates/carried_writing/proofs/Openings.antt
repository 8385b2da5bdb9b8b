-- The openings that are left, as the lists of steps and fees that are put: how many are past (`past_few`), that the others come after the step (`after_step`), how many these are (`left_size`), and that the lists pair to them (`left_is`). By the openings, one after the other.
use Prim.Native.Nat.{ℕ, zero, suc, ◌-◌, ◌≤◌}
use mathlib.Core.Path.{◌≡◌, refl, sym, ap, ap₂, subst, ◌∙◌}
use mathlib.Core.List.{List, [], ◌∷◌, map}
use native.Mathlib.Omega.{arith}
use lib.ListN.{length, length-map, length-drop, take, drop}
use Rattle.model.specs.Model.{Opening, fee_of}
use Rattle.model.specs.Windows.{steps_of}
use Rattle.jobs.specs.Views.{job_of}
use Rattle.jobs.specs.declared.accepted.Accepted.{Accepted}
use Rattle.jobs.proofs.Jobs.{opening_count_lem2}
use Rattle.carry.specs.Carry.{passed, renumbered}
use Rattle.carry.proofs.Later.{After, left_after, count_most}
use Rattle.form_facts.specs.Facts.{paired}
use Rattle.carried_writing.proofs.Quoted.{drop_taken}

-- renumbered openings are paired of their renumbered steps and their fees
openings_paired : (step k : ℕ) (os : List Opening) → paired (map (λ (s : ℕ). s - step) (drop k (steps_of os))) (drop k (map fee_of os)) ≡ map (renumbered step) (drop k os)
unfolding paired
openings_paired step zero [] = refl
openings_paired step (suc k) [] = refl
openings_paired step zero (o ∷ os) = ap (λ (l : List Opening). renumbered step o ∷ l) (openings_paired step zero os)
openings_paired step (suc k) (o ∷ os) = openings_paired step k os

module _ (a : Accepted) (step k : ℕ) (counts : k ≡ passed (job_of a.job) step) where
  abbrev n : ℕ
  n = a.job.opening_count

  abbrev os : List Opening
  os = (job_of a.job).openings

  abbrev later : List ℕ
  later = map (λ (s : ℕ). s - step) (drop k (steps_of os))

  steps_size : length (steps_of os) ≡ n
  steps_size = length-map os (λ (o : Opening). o.step) ∙ opening_count_lem2 a.job

  pub past_few : k ≤ n
  past_few = omega (arith, counts, count_most step (steps_of os), steps_size)

  pub left_size : length (map (renumbered step) (drop k os)) ≡ n - k
  left_size = length-map (drop k os) (renumbered step) ∙ length-drop k os ∙ ap (λ (m : ℕ). m - k) (opening_count_lem2 a.job)

  module _ (steps : List ℕ) (are : take n steps ≡ steps_of os) where
    pub taken_size : length (take n steps) ≡ n
    taken_size = ap length are ∙ steps_size

    pub after_step : After step (drop k (take n steps))
    after_step =
        subst (λ (ss : List ℕ). After step (drop k ss)) (sym are)
        (subst (λ (j : ℕ). After step (drop j (steps_of os))) (sym counts) (left_after step 0 a.job.horizon (steps_of os) a.valid.rising))

    pub left_is : (written fees : List ℕ) → take (length (take n steps) - k) written ≡ map (λ (s : ℕ). s - step) (drop k (take n steps)) → take n fees ≡ map fee_of os
        → paired (take (n - k) written) (take (n - k) (drop k fees)) ≡ map (renumbered step) (drop k os)
    left_is written fees e f =
        let w : take (n - k) written ≡ later =
        ap (λ (m : ℕ). take (m - k) written) (sym taken_size) ∙ e ∙ ap (λ (ss : List ℕ). map (λ (s : ℕ). s - step) (drop k ss)) are in
        let g : take (n - k) (drop k fees) ≡ drop k (map fee_of os) = sym (drop_taken k n fees past_few) ∙ ap (drop k) f in
        ap₂ paired w g ∙ openings_paired step k os
