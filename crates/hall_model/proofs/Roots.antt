-- A hall has plans for all its lines if and only if the root has a bound, and this floor is no more than the cost of any; and it has none exactly if some line has no plan.
use mathlib.Core.Path.{◌≡◌, refl, sym, ap, ap₂, subst, ◌∙◌}
use mathlib.Core.Bool.{Bool}
use mathlib.Core.List.{List, [], ◌∷◌}
use mathlib.Core.Logic.{◌↔◌}
use Prim.Native.Nat.{ℕ, suc, ◌≤◌}
use native.Mathlib.Omega.{arith}
use Rattle.branch.specs.declared.Bound.{Bound}
use Rattle.branch.specs.declared.Bound.TheVariants.{Missing, Sum}
use Rattle.branch.specs.Search.{NoMore}
use Rattle.branch.specs.Lower.{add, total}
use Rattle.branch.proofs.Lower.{split}
use Rattle.branch.proofs.Bounds.{no_sum_lem, there_is}
use Rattle.model.specs.Model.{Job, Plan, Each, KeepsLives, HasPlan}
use Rattle.model.specs.LowerBound.{bound_of}
use Rattle.model.proofs.Roots.{rooted as line-rooted, root-of as line-root-of}
use Rattle.hall_model.specs.Hall.{Hall, Proper, Placed, SomeWithout, hall_cost, KeepsAll, HasPlans}
use Rattle.hall_model.specs.Agenda.{Topic, Agenda, over, raise, hear_then, hear, agenda_of, Line, lines_from, lines_of, to_line, to_crew}
use Rattle.hall_model.specs.Decisions.{hall_decisions}
use Rattle.hall_model.specs.LowerBound.{line_bound, priced, called_at, hall_bound}
use Rattle.hall_model.proofs.Bounded.{rises, node_cost}
use Rattle.hall_model.proofs.Plans.{each_placed, node_of, hall_full}

-- nothing decided tells nothing
pub hear_nothing : (tells : Topic → Bool → List Bool) (a : Agenda) → hear tells a [] ≡ []
unfolding hear_then
hear_nothing tells over = refl
hear_nothing tells (raise t inner next) = refl

module _ (hall : Hall) where
  lines_rooted : (j : ℕ) (js : List Job) (n : ℕ) → total (line_bound hall) (lines_from j js) [] ≡ Sum n → (plans : List Plan) × Each KeepsLives js plans
  unfolding lines_from
  lines_rooted j [] n e = ([], tt)
  lines_rooted j (job ∷ js) n e =
      let ln : Line = record { place = j; job = job } in
      let d = split (line_bound hall ln []) (total (line_bound hall) (lines_from (suc j) js) []) n e in
      let h = line-rooted job d.a (ap (bound_of job) (sym (hear_nothing (to_line ln) (agenda_of hall))) ∙ d.left) in
      let r = lines_rooted (suc j) js d.b d.right in
      (h.0 ∷ r.0, (h.1, r.1))

  -- where the root has a bound, every line has a plan
  pub rooted : (f : ℕ) → hall_bound hall [] ≡ Sum f → HasPlans hall
  unfolding hall_bound
  rooted f e = let d = split (Sum (called_at hall [])) (total (line_bound hall) (lines_of hall) []) f e in lines_rooted 0 hall.jobs d.b d.right

  -- the floor is the sum of the lines' own, whatever a call costs
  pub floor_lines : hall_bound hall [] ≡ total (λ (ln : Line) (p : List Bool). bound_of ln.job p) (lines_of hall) []
  unfolding hall_bound
  floor_lines =
      ap₂ (λ (cs : List Bool) (b : Bound). add (Sum (priced hall.call cs)) b) (hear_nothing to_crew (agenda_of hall)) (lines (lines_of hall))
      ∙ zero-add (total (λ (ln : Line) (p : List Bool). bound_of ln.job p) (lines_of hall) [])
    where
      zero-add : (b : Bound) → add (Sum 0) b ≡ b
      zero-add Missing = refl
      zero-add (Sum n) = ap Sum (omega arith)

      lines : (ls : List Line) → total (line_bound hall) ls [] ≡ total (λ (ln : Line) (p : List Bool). bound_of ln.job p) ls []
      lines [] = refl
      lines (ln ∷ ls) = ap₂ add (ap (bound_of ln.job) (hear_nothing (to_line ln) (agenda_of hall))) (lines ls)

  -- and no more than the cost of any hall plan
  pub floor_least : Proper hall → (plans : List Plan) → KeepsAll hall plans → (f : ℕ) × (hall_bound hall [] ≡ Sum f) × (f ≤ hall_cost hall plans)
  floor_least proper plans k =
      let s = hall_decisions hall plans in
      let b = node_of hall proper plans k in
      let l = there_is (hall_bound hall []) b.bound (subst (NoMore (hall_bound hall [])) (sym (node_cost hall s (hall_full hall proper plans k)) ∙ b.node) (rises hall [] s)) in
      (l.0, l.1, omega (arith, l.2, b.le))

-- ---- "if some line has no plan"

some_without : (jobs : List Job) → (((plans : List Plan) × Each KeepsLives jobs plans) → ⊥) → (d : ℕ) × (job : Job) × Placed jobs d job × (HasPlan job → ⊥)
some_without [] f = absurd (f ([], tt))
some_without (job ∷ jobs) f = go (bound_of job []) refl (λ g. some_without jobs g)
  where
    go : (x : Bound) → bound_of job [] ≡ x → ((((plans : List Plan) × Each KeepsLives jobs plans) → ⊥) → (d : ℕ) × (y : Job) × Placed jobs d y × (HasPlan y → ⊥))
        → (d : ℕ) × (y : Job) × Placed (job ∷ jobs) d y × (HasPlan y → ⊥)
    go Missing e rec = (0, job, refl, λ h. let r = line-root-of job h in no_sum_lem (bound_of job []) r.0 e r.1)
    go (Sum n) e rec =
        let h = line-rooted job n e in
        let r = rec (λ p. f (h.0 ∷ p.0, (h.1, p.1))) in
        (suc r.0, r.1, r.2, r.3)

-- the hall has no plans exactly if some line has none
pub some_line : (hall : Hall) → (HasPlans hall → ⊥) ↔ SomeWithout hall
some_line hall =
    (some_without hall.jobs, λ r h. r.3 (_, each_placed KeepsLives hall.jobs h.0 h.1 r.0 r.1 r.2))
