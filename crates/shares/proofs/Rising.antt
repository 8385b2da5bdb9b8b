-- Cutoffs from below, with any admissible estimate: what is found is the planner's plan, whatever the cutoffs are; and they pass only below the least cost.
use mathlib.Core.Path.{◌≡◌, refl, subst}
use mathlib.Core.Bool.{Bool}
use mathlib.Core.List.{List, [], ◌∷◌}
use mathlib.Core.Logic.{◌⊎◌, ⊎_elim}
use Prim.Native.Nat.{ℕ, ◌≤◌, ◌<◌}
use native.Mathlib.Omega.{arith}
use Rattle.branch.specs.declared.Bound.{Bound}
use Rattle.branch.specs.Planning.{optimum}
use Rattle.model.specs.Model.{Job, Plan, cost_of_lem, KeepsLives}
use Rattle.model.specs.LowerBound.{plan_at}
use Rattle.model.specs.Promise.{BestPlan, Any, whole_count, answer_of}
use Rattle.shares.specs.Shares.{Shares, FairShares}
use Rattle.shares.specs.Optimum.{Admissible, tree_by}
use Rattle.shares.specs.Certificate.{Certificate, least, cheaper, further, certify, Certifies}
use Rattle.known_cost.specs.Known.{count_under}
use Rattle.shares.specs.Lift.{lifted_bound}
use Rattle.shares.specs.Dolls.{LiftedFrom}
use Rattle.shares.specs.Rising.{Risen, found, passed, longer, risen_by, rising, NoneUnderAny}
use Rattle.shares.proofs.SamePlan.{best_answered}
use Rattle.shares.proofs.Certified.{by_stands, certifies}
use Rattle.shares.proofs.Lifted.{lifted_admissible}
use Rattle.shares.proofs.Dolls.{all_lifted}

-- what each end is worth
abbrev pub RisenPromise : Job → List ℕ → Risen → Type 0
RisenPromise job ks (found c p) = BestPlan job Any c p
RisenPromise job ks passed = NoneUnderAny job ks
RisenPromise job ks longer = Unit {0}

module _ (job : Job) (bound : List Bool → Bound) (ok : Admissible job bound) (limit : ℕ) where
  -- what the rising cutoffs end with is right: the best plan, or that none costs less than any of them
  pub risen_right : (ks : List ℕ) → RisenPromise job ks (rising job bound limit ks)
  unfolding rising
  risen_right [] = tt
  risen_right (k ∷ ks) = go (certify (tree_by job bound) (plan_at job) k limit) (certifies job (tree_by job bound) (plan_at job) (BestPlan job Any) (by_stands job bound ok) k limit) (rising job bound limit ks) (risen_right ks)
    where
      go : (a : Certificate) → Certifies job (tree_by job bound) (BestPlan job Any) k limit a → (r : Risen) → RisenPromise job ks r → RisenPromise job (k ∷ ks) (risen_by a r)
      go (least n) x (found c p) y = y
      go (least n) x passed y = ((x.says_least.0 tt).0, y)
      go (least n) x longer y = tt
      go (cheaper n c p) x r y = x.plan_for_lem.0
      go (further n) x r y = tt

  -- what is found is what the planner answers at every walk number that lets it end
  pub risen_plan : (ks : List ℕ) (c : ℕ) (p : Plan) → rising job bound limit ks ≡ found c p → (walk : ℕ) → whole_count job ≤ walk → (m g : ℕ) × (answer_of job walk ≡ optimum m g c p)
  risen_plan ks c p e = best_answered job c p (subst (RisenPromise job ks) e (risen_right ks))

  -- it ends: every walk fits into the limit, and one of the cutoffs is more than some plan costs
  abbrev pub Fits : List ℕ → Type 0
  Fits [] = Unit {0}
  Fits (k ∷ ks) = (count_under (tree_by job bound) k ≤ limit) × Fits ks

  -- one of these cutoffs is above the cost c
  abbrev pub Above : ℕ → List ℕ → Type 0
  Above c [] = ⊥
  Above c (k ∷ ks) = (c < k) ⊎ Above c ks

  -- where every walk fits the limit and a cutoff is above some plan's cost, a plan is found
  pub risen_ends : (ks : List ℕ) → Fits ks → (q : Plan) → KeepsLives job q → Above (cost_of_lem job q) ks → (c : ℕ) × (p : Plan) × (rising job bound limit ks ≡ found c p)
  unfolding rising
  risen_ends [] f q keeps a = absurd a
  risen_ends (k ∷ ks) f q keeps a =
      go (certify (tree_by job bound) (plan_at job) k limit) (certifies job (tree_by job bound) (plan_at job) (BestPlan job Any) (by_stands job bound ok) k limit) (rising job bound limit ks) (risen_ends ks f.1 q keeps)
    where
      go : (x : Certificate) → Certifies job (tree_by job bound) (BestPlan job Any) k limit x → (r : Risen) → (Above (cost_of_lem job q) ks → (c : ℕ) × (p : Plan) × (r ≡ found c p))
          → (c : ℕ) × (p : Plan) × (risen_by x r ≡ found c p)
      go (least n) x r later = ⊎_elim (λ u. absurd (omega (arith, (x.says_least.0 tt).0 q keeps, u))) later a
      go (cheaper n c p) x r later = (c, p, refl)
      go (further n) x r later = absurd (omega (arith, x.says_further.0 tt, f.0))

-- with any fair shares and any lifts that the searches of the levels gave
pub lifted_risen : (job : Job) (shares : Shares) → FairShares job shares → (lift : ℕ → ℕ) → LiftedFrom job shares 0 lift → (limit : ℕ) (ks : List ℕ) (c : ℕ) (p : Plan) → rising job (lifted_bound job shares lift) limit ks ≡ found c p
    → (walk : ℕ) → whole_count job ≤ walk → (m g : ℕ) × (answer_of job walk ≡ optimum m g c p)
lifted_risen job shares fair lift ok limit ks c p e =
    risen_plan job (lifted_bound job shares lift) (lifted_admissible job shares fair lift (all_lifted job shares fair lift ok)) limit ks c p e
