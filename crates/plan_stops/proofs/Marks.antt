-- A plan that is marked stop by stop is the plan that the stops make (`visit_more`), and a part that is marked is one part more (`part_more`). By index.
use Prim.Native.Nat.{ℕ, ◌+◌, ◌-◌, ◌≤◌, ◌<◌}
use mathlib.Core.Path.{◌≡◌, refl, sym, ap, ap₂, ◌∙◌}
use mathlib.Core.List.{List, [], ◌∷◌, ◌++◌, map}
use mathlib.Core.Bool.{Bool, true, false, cond, ◌&&◌, ◌||◌, or_assoc, or_self, or-true, or-false, and-true, and-false}
use native.Mathlib.Omega.{arith}
use borrow.Author.Tests.{eq-eqb, ne_eqb}
use lib.Dec.{eqb}
use lib.ListN.{length, get_or, take, set, replicate, length-replicate, get_or-replicate}
use lib.Seq.{take-set-lt}
use Rattle.model.specs.Model.{Job, listed}
use Rattle.model.specs.Model as model
use Rattle.plan_grammar.specs.Grammar.{Visit, any, visited, changed, table, openings_at, plan_of}
use Rattle.plan_grammar.specs.Rendering.{step_at}
use Rattle.model.specs.Limits.{most_openings, most_parts}
use Rattle.jobs.specs.declared.Job as code
use Rattle.jobs.specs.declared.Plan.{Plan}
use Rattle.jobs.specs.Views.{job_of, changes_of, model_plan, empty_plan, plan_for, blank_changes}
use Rattle.jobs.proofs.Plans.{changes_at_lem}
use Rattle.jobs.proofs.Jobs.{opening_count_lem2, part_count}
use Rattle.plan_stops.specs.Marks.{with_step, with_parts, with_visit}
use Rattle.jobs.specs.declared.Changes.{Changes}
use Rattle.plan_grammar.proofs.Steps.{openings-table}
use Rattle.plan_grammar.proofs.Lists.{any_snoc, table_at, table_same, table_is, table-set, map-set, map_constant}
use Rattle.model.proofs.Lists.{listed_snoc}

-- ---- a set of openings

-- one step more
step_more : (job : Job) (step : ℕ) (f g : ℕ → Bool) → ((t : ℕ) → g t ≡ (f t || eqb step t)) → with_step job step (openings_at job f) ≡ openings_at job g
unfolding with_step
step_more job step f g h =
    table_same _ _ n (λ i l. ap (λ (b : Bool). b || eqb step (step_at job i)) (ap (λ (xs : List Bool). get_or xs i false) (openings-table job f) ∙ table_at (λ j. f (step_at job j)) n i false l) ∙ sym (h (step_at job i)))
    ∙ sym (openings-table job g)
  where
    n : ℕ
    n = length job.openings

-- the same step twice
step_twice : (job : Job) (step : ℕ) (s : List Bool) → with_step job step (with_step job step s) ≡ with_step job step s
unfolding with_step
step_twice job step s = table_same _ _ n (λ i l. ap (λ (b : Bool). b || hit i) (table_at (λ j. get_or s j false || hit j) n i false l) ∙ or_assoc (get_or s i false) (hit i) (hit i) ∙ ap (λ (b : Bool). get_or s i false || b) (or_self (hit i)))
  where
    n : ℕ
    n = length job.openings

    hit : ℕ → Bool
    hit i = eqb step (step_at job i)

-- ---- the changes

module _ (job : Job) (step : ℕ) (sets : List (List Bool)) where
  -- the set of part k + 1 once the parts ks are marked
  abbrev set_of : List ℕ → ℕ → List Bool
  set_of ks k = cond (listed ks (k + 1)) (with_step job step (get_or sets k [])) (get_or sets k [])

  -- where no parts are marked at the step, the parts' change sets stay as they are
  pub parts_none : length sets ≡ length job.parts → sets ≡ with_parts job step [] sets
  unfolding with_parts listed
  parts_none e = table_is sets [] (set_of []) (length job.parts) e (λ i h. refl)

  -- part k marked too
  pub part_more : (ks : List ℕ) (k : ℕ) → 1 ≤ k → k ≤ length job.parts
      → set (with_parts job step ks sets) (k - 1) (with_step job step (get_or (with_parts job step ks sets) (k - 1) [])) ≡ with_parts job step (ks ++ k ∷ []) sets
  unfolding with_parts
  part_more ks k low high = table-set (set_of ks) (set_of (ks ++ k ∷ [])) (length job.parts) (k - 1) _ (omega arith) here (λ i h n. other i n)
    where
      again : (b : Bool) (s : List Bool) → with_step job step (cond b (with_step job step s) s) ≡ with_step job step s
      again true s = step_twice job step s
      again false s = refl

      named : listed (ks ++ k ∷ []) (k - 1 + 1) ≡ true
      named = listed_snoc ks k (k - 1 + 1) ∙ ap (λ (b : Bool). listed ks (k - 1 + 1) || b) (eq-eqb k (k - 1 + 1) (omega arith)) ∙ or-true (listed ks (k - 1 + 1))

      here : with_step job step (get_or (table (set_of ks) (length job.parts)) (k - 1) []) ≡ set_of (ks ++ k ∷ []) (k - 1)
      here =
          ap (with_step job step) (table_at (set_of ks) (length job.parts) (k - 1) [] (omega arith))
          ∙ again (listed ks (k - 1 + 1)) (get_or sets (k - 1) [])
          ∙ sym (ap (λ (b : Bool). cond b (with_step job step (get_or sets (k - 1) [])) (get_or sets (k - 1) [])) named)

      other : (i : ℕ) → (i ≡ k - 1 → ⊥) → set_of ks i ≡ set_of (ks ++ k ∷ []) i
      other i n =
          ap (λ (b : Bool). cond b (with_step job step (get_or sets i [])) (get_or sets i []))
          (sym (listed_snoc ks k (i + 1) ∙ ap (λ (b : Bool). listed ks (i + 1) || b) (ne_eqb k (i + 1) (λ e. n (omega arith))) ∙ or-false (listed ks (i + 1))))

-- ---- a visit

-- a plan made of visits, with one visit more
pub visit_more : (job : Job) (vs : List Visit) (v : Visit) → with_visit job v (plan_of job vs) ≡ plan_of job (vs ++ v ∷ [])
unfolding with_visit with_parts plan_of
visit_more job vs v = λ i. record { stops = stops i; changes = changes i }
  where
    m : ℕ
    m = length job.parts

    stops : with_step job v.step (openings_at job (visited vs)) ≡ openings_at job (visited (vs ++ v ∷ []))
    stops = step_more job v.step (visited vs) (visited (vs ++ v ∷ [])) (λ t. any_snoc (λ (w : Visit). eqb w.step t) vs v)

    row : ℕ → List Bool
    row k = openings_at job (changed vs (k + 1))

    more : (k t : ℕ) → changed (vs ++ v ∷ []) (k + 1) t ≡ (changed vs (k + 1) t || (eqb v.step t && listed v.parts (k + 1)))
    more k t = any_snoc (λ (w : Visit). eqb w.step t && listed w.parts (k + 1)) vs v

    part : (k : ℕ) (b : Bool) → listed v.parts (k + 1) ≡ b → cond b (with_step job v.step (row k)) (row k) ≡ openings_at job (changed (vs ++ v ∷ []) (k + 1))
    part k true e = step_more job v.step (changed vs (k + 1)) (changed (vs ++ v ∷ []) (k + 1)) (λ t. more k t ∙ ap (λ (b : Bool). changed vs (k + 1) t || b) (ap (λ (b : Bool). eqb v.step t && b) e ∙ and-true (eqb v.step t)))
    part k false e =
        openings-table job (changed vs (k + 1))
        ∙ table_same _ _ (length job.openings) (λ i h. let t = step_at job i in sym (more k t ∙ ap (λ (b : Bool). changed vs (k + 1) t || b) (ap (λ (b : Bool). eqb v.step t && b) e ∙ and-false (eqb v.step t)) ∙ or-false (changed vs (k + 1) t)))
        ∙ sym (openings-table job (changed (vs ++ v ∷ []) (k + 1)))

    changes : table (λ k. cond (listed v.parts (k + 1)) (with_step job v.step (get_or (table row m) k [])) (get_or (table row m) k [])) m
        ≡ table (λ k. openings_at job (changed (vs ++ v ∷ []) (k + 1))) m
    changes = table_same _ _ m (λ k h. ap (λ (s : List Bool). cond (listed v.parts (k + 1)) (with_step job v.step s) s) (table_at row m k [] h) ∙ part k (listed v.parts (k + 1)) refl)

-- no visit at all
pub visit_none : (job : Job) (n m : ℕ) → length job.openings ≡ n → length job.parts ≡ m → empty_plan n m ≡ plan_of job []
unfolding plan_of any
visit_none job n m p q = λ i. record { stops = nowhere i; changes = never i }
  where
    nowhere : replicate n false ≡ openings_at job (visited [])
    nowhere = ap (λ (k : ℕ). replicate k false) (sym p) ∙ sym (map_constant job.openings false)

    never : replicate m (replicate n false) ≡ table (λ k. openings_at job (changed [] (k + 1))) (length job.parts)
    never = ap₂ (λ (k : ℕ) (s : List Bool). replicate k s) (sym q) nowhere ∙ table_is _ [] (λ k. openings_at job (visited [])) (length job.parts) (length-replicate (length job.parts) _) (λ i h. get_or-replicate (length job.parts) i (openings_at job (visited [])) [] h)

-- ---- the code's changes

-- one part's changes are stored
pub changes_set : (n m : ℕ) (cs : List Changes) (j : ℕ) (c : Changes) → j < m → changes_of n m (set cs j c) ≡ set (changes_of n m cs) j (take n c.at)
changes_set n m cs j c h = ap (map (λ (x : Changes). take n x.at)) (take-set-lt m cs j c h) ∙ map-set (λ (x : Changes). take n x.at) (take m cs) j c

-- part k is marked at a step
pub changes_more : (job : Job) (n m step : ℕ) (rows : List (List Bool)) (cs : List Changes) (ks : List ℕ) (k : ℕ) (next : List Bool)
    → length job.parts ≡ m → m ≤ length cs → 1 ≤ k → k ≤ m
    → changes_of n m cs ≡ with_parts job step ks rows → take n next ≡ with_step job step (take n (get_or cs (k - 1) blank_changes).at)
    → changes_of n m (set cs (k - 1) (record { at = next })) ≡ with_parts job step (ks ++ k ∷ []) rows
changes_more job n m step rows cs ks k next count l low high h e =
    changes_set n m cs (k - 1) (record { at = next }) (omega arith)
    ∙ ap₂ (λ (xs : List (List Bool)) (x : List Bool). set xs (k - 1) x) h
    (e ∙ ap (with_step job step) (sym (changes_at_lem n m cs l (k - 1) (omega arith)) ∙ ap (λ (xs : List (List Bool)). get_or xs (k - 1) []) h))
    ∙ part_more job step rows ks k low (omega arith)

-- which the code's empty plan is
pub empty_made : (job : code.Job) (p : Plan) → ((n m : ℕ) → n ≤ most_openings → m ≤ most_parts → model_plan n m p ≡ empty_plan n m) → plan_for job p ≡ plan_of (job_of job) []
empty_made job p e = e _ _ job.few_openings job.few_parts ∙ visit_none (job_of job) _ _ (opening_count_lem2 job) (part_count job)
