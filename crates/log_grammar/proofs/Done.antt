-- What the log did, worked out on the job with its openings up to the step alone, as code holds it: the same changes' positions (`positions_front`), and the same cost (`cost_front`).
use mathlib.Core.Path.{◌≡◌, refl, sym, ap, ap₂, ◌∙◌}
use mathlib.Core.Bool.{Bool, true, false, ◌&&◌, ◌||◌}
use mathlib.Core.List.{List, [], ◌∷◌, map}
use Prim.Native.Nat.{ℕ, zero, suc, ◌+◌, ◌-◌, ◌≤◌, ◌<◌}
use native.Mathlib.Omega.{arith}
use lib.ListN.{length, length-map, get_or, take, drop}
use lib.Seq.{length-take-le, get_or-take}
use lib.IntN.{ℤ}
use Rattle.model.specs.Model.{Opening, Part, Job, Plan, clock, positions, listed, holds_one, select, sum_at, sum, fee_of, removal_of_lem, prices_of_lem, out_at, removals_of_lem, cost_of_lem}
use Rattle.model.proofs.Offers.{sum_none}
use Rattle.model.proofs.Sums.{sum_same}
use Rattle.model.proofs.Sums as sums
use Rattle.model.proofs.Totals.{sum_empty}
use Rattle.model.proofs.Outs.{brought}
use Rattle.carry.proofs.Splits.{map-take, select-take, sum_cut_at}
use Rattle.carry.proofs.Kin.{out_at_same, outs_kin}
use Rattle.log_grammar.specs.Grammar.{part_to, job_to}
use Rattle.log_grammar.specs.Rendering.{plan_front}

-- a set with none from place n on
abbrev pub Before : ℕ → List Bool → Type 0
Before n cs = (k : ℕ) → get_or cs k false ≡ true → k < n

-- ---- positions

select_front : {A : Type 0} (n : ℕ) (xs : List A) (cs : List Bool) → Before n cs → select (take n xs) (take n cs) ≡ select xs cs
unfolding select
select_front zero xs cs h = sym (select-take xs cs 0 h)
select_front (suc n) [] cs h = refl
select_front (suc n) (x ∷ xs) [] h = refl
select_front (suc n) (x ∷ xs) (false ∷ cs) h = select_front n xs cs (λ k e. omega (arith, h (suc k) e))
select_front {A} (suc n) (x ∷ xs) (true ∷ cs) h = ap (λ (l : List A). x ∷ l) (select_front n xs cs (λ k e. omega (arith, h (suc k) e)))

-- changes before a step have the same positions in the job up to there
pub positions_front : (job : Job) (n : ℕ) (changes : List Bool) → Before n changes → select (positions (job_to n job)) (take n changes) ≡ select (positions job) changes
unfolding clock
positions_front job n changes h =
    ap (λ (l : List ℤ). select l (take n changes)) (map-take (λ (o : Opening). clock job o.step) n job.openings) ∙ select_front n (positions job) changes h

-- ---- sums

sum_front : (n : ℕ) (ns : List ℕ) (cs : List Bool) → Before n cs → sum_at (take n ns) (take n cs) ≡ sum_at ns cs
unfolding sum_at
sum_front zero ns cs h = sym (sum_empty ns cs (λ k e. absurd (omega (arith, h k e))))
sum_front (suc n) [] cs h = sum_none (take (suc n) cs) ∙ sym (sum_none cs)
sum_front (suc n) (x ∷ ns) [] h = refl
sum_front (suc n) (x ∷ ns) (false ∷ cs) h = sum_front n ns cs (λ k e. omega (arith, h (suc k) e))
sum_front (suc n) (x ∷ ns) (true ∷ cs) h = ap (λ (k : ℕ). x + k) (sum_front n ns cs (λ k e. omega (arith, h (suc k) e)))

module _ (n : ℕ) where
  prices_front : (ps : List Part) (cs : List (List Bool)) → ((i : ℕ) → Before n (get_or cs i [])) → prices_of_lem (map (part_to n) ps) (map (take n) cs) ≡ prices_of_lem ps cs
  prices_front [] cs h = refl
  prices_front (p ∷ ps) [] h = refl
  prices_front (p ∷ ps) (c ∷ cs) h = ap₂ (λ (a b : ℕ). a + b) (sum_front n p.prices c (h 0)) (prices_front ps cs (λ i. h (suc i)))

  -- holders and removals are the job's
  holds_same : (ps : List Part) (out : List Bool) (number : ℕ) → holds_one (map (part_to n) ps) out number ≡ holds_one ps out number
  unfolding holds_one
  holds_same [] out number = refl
  holds_same (p ∷ ps) out number = ap (λ (b : Bool). (get_or out 0 false && listed p.holders number) || b) (holds_same ps (drop 1 out) number)

  removals_are : (ps : List Part) → map removal_of_lem (map (part_to n) ps) ≡ map removal_of_lem ps
  removals_are [] = refl
  removals_are (p ∷ ps) = ap (λ (l : List ℕ). p.removal ∷ l) (removals_are ps)

  changed_same : (cs : List (List Bool)) (i k : ℕ) → k < n → get_or (get_or (map (take n) cs) i []) k false ≡ get_or (get_or cs i []) k false
  changed_same [] i k h = refl
  changed_same (c ∷ cs) zero k h = get_or-take n c k false h
  changed_same (c ∷ cs) (suc i) k h = changed_same cs i k h

  module _ (job : Job) (fits : n ≤ length job.openings) (cs : List (List Bool)) (early : (i : ℕ) → Before n (get_or cs i [])) where
    abbrev past : Job
    past = job_to n job

    outs_same : (k : ℕ) → k < n → out_at past (map (take n) cs) k ≡ out_at job cs k
    outs_same k h = outs_kin past job (length-map job.parts (part_to n)) (holds_same job.parts) (map (take n) cs) k ∙ out_at_same job (map (take n) cs) cs k k (λ i. changed_same cs i k h)

    removals_front : removals_of_lem past (map (take n) cs) ≡ removals_of_lem job cs
    removals_front =
        let m = length job.openings in
        let removed : ℕ → ℕ = λ k. sum_at (map removal_of_lem job.parts) (out_at job cs k) in
        let size : m ≡ n + (m - n) = omega arith in
        let whole = ap (λ (k : ℕ). sum 0 k removed) size ∙ sum_cut_at removed n (m - n) in
        let none = sum_same (m - n) 0 (λ k. removed (n + k)) (λ k. 0) (λ k _ _. sum_empty (map removal_of_lem job.parts) (out_at job cs (n + k)) (λ j e. let r = brought job cs (n + k) j e in absurd (omega (arith, early r.0 (n + k) r.2))))
        ∙ sums.sum_none (m - n) 0 in
        let front = ap (λ (k : ℕ). sum 0 k (λ k. sum_at (map removal_of_lem past.parts) (out_at past (map (take n) cs) k))) (length-take-le n job.openings fits)
        ∙ sum_same n 0 (λ k. sum_at (map removal_of_lem past.parts) (out_at past (map (take n) cs) k)) removed (λ k _ h. ap₂ sum_at (removals_are job.parts) (outs_same k (omega arith))) in
        omega (arith, whole, none, front)

-- what the log did costs the same
pub cost_front : (job : Job) (n : ℕ) (plan : Plan) → n ≤ length job.openings → Before n plan.stops → ((i : ℕ) → Before n (get_or plan.changes i [])) → cost_of_lem (job_to n job) (plan_front n plan) ≡ cost_of_lem job plan
cost_front job n plan fits stops early =
    let fees = ap (λ (l : List ℕ). sum_at l (take n plan.stops)) (map-take fee_of n job.openings) ∙ sum_front n (map fee_of job.openings) plan.stops stops in
    omega (arith, fees, prices_front n job.parts plan.changes early, removals_front n job fits plan.changes early)
