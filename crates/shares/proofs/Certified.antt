-- The certificate keeps its promise: of any tree whose full nodes stand for plans; of the planner's tree with any admissible estimate, and so with any fair shares. A walk that knows one more
-- than a plan's cost has the planner's plan.
use mathlib.Core.Path.{◌≡◌, refl, sym, ap, subst, ◌∙◌}
use mathlib.Core.Bool.{Bool, true, false, cond, true≢false}
use mathlib.Core.List.{List, []}
use Prim.Native.Nat.{ℕ, suc, ◌+◌, ◌≤◌, ◌<◌, min}
use native.Mathlib.Omega.{arith}
use native.Mathlib.Decide.{dec_le}
use lib.Dec.{ltb}
use lib.ListN.{length}
use borrow.Author.Tests.{ltb-true, ltb-false, le-ltb}
use Rattle.branch.specs.declared.Bound.{Bound}
use Rattle.branch.specs.declared.Bound.TheVariants.{Sum}
use Rattle.branch.specs.Search.{Tree, cost_at, Bounded, Incumbent, none, plan, whole, Limited, Strict}
use Rattle.branch.proofs.First.{correct, strict}
use Rattle.branch.proofs.Limit.{cut as limits}
use Rattle.branch.proofs.Planned.{best_plan}
use Rattle.branch.proofs.Unique.{best_cost, best_same}
use Rattle.model.specs.Model.{Job, Plan, cost_of_lem, KeepsLives}
use Rattle.model.specs.Decisions.{decisions_of}
use Rattle.model.specs.LowerBound.{plan_at}
use Rattle.model.specs.Promise.{job_problem, BestPlan, Any}
use Rattle.model.proofs.Unique.{determined}
use Rattle.shares.specs.Shares.{Shares, FairShares}
use Rattle.shares.specs.Optimum.{Admissible, tree_by, problem_by, shared_bound}
use Rattle.shares.specs.Certificate.{Certificate, least, cheaper, further, certified, certify, NoneUnder, Lowest, Certifies}
use Rattle.shares.proofs.SamePlan.{by_bounded, by_laws}
use Rattle.shares.proofs.Shared.{shared_admissible}
use Rattle.known_cost.specs.Known.{knowing, walk_under, count_under}
use Rattle.known_cost.proofs.From.{better, walk-better, limited_fits, limited_cuts}

-- ---- any tree

-- what ties a tree to a job's plans: each has a full node at no more than its cost, and the plan of the last incumbent is good and of least cost
pub record Stands (job : Job) (t : Tree) (plan_of : List Bool → Plan) (Good : ℕ → Plan → Type 0) : Type 0 where
  -- no full node below a node of the tree costs less than the node's bound
  pub bounded : Bounded t
  -- each plan that keeps the lives has a full node that costs no more than the plan
  pub node_of : (q : Plan) → KeepsLives job q → (s : List Bool) × (d : ℕ) × (cost_at t s ≡ Sum d) × (d ≤ cost_of_lem job q)
  -- the plan of the whole walk's incumbent is good, and of least cost over all plans
  pub last : (d : ℕ) (s : List Bool) → (whole t).incumbent ≡ plan d s → Good d (plan_of s) × Lowest job d (plan_of s)

module _ (job : Job) (t : Tree) (plan_of : List Bool → Plan) (Good : ℕ → Plan → Type 0) (ok : Stands job t plan_of Good) (cost limit : ℕ) where
  abbrev count : ℕ
  count = count_under t cost

  abbrev Said : Certificate → Type 0
  Said a = Certifies job t Good cost limit a

  no_last : (whole t).incumbent ≡ none → (q : Plan) → KeepsLives job q → ⊥
  no_last e q k = let b = ok.node_of q k in (correct t ok.bounded).if_none e b.0 b.1 b.2

  -- ---- where it ends

  module _ (fits : count ≤ limit) where
    is_least : (n : ℕ) → n ≡ min limit count → NoneUnder job cost → Said (least n)
    is_least n e h = record {
      says_least = ((λ _. (h, fits)), λ _. tt);
      says_cheaper = ((λ x. absurd x), λ x. absurd (omega (arith, h x.0.0 x.0.1, x.0.2)));
      says_further = ((λ x. absurd x), λ x. absurd (omega arith));
      nodes = e;
      plan_for_lem = tt;
    }

    is_cheaper : (n c : ℕ) (p : Plan) → n ≡ min limit count → Good c p → Lowest job c p → c < cost → Said (cheaper n c p)
    is_cheaper n c p e g b l = record {
      says_least = ((λ x. absurd x), λ x. absurd (omega (arith, x.0 p b.keeps, b.states, l)));
      says_cheaper = ((λ _. ((p, b.keeps, omega (arith, b.states)), fits)), λ _. tt);
      says_further = ((λ x. absurd x), λ x. absurd (omega arith));
      nodes = e;
      plan_for_lem = (g, l);
    }

    -- by what the whole walk ends with
    by_last : (n : ℕ) → n ≡ min limit count → (x : Incumbent) → (whole t).incumbent ≡ x → Said (certified plan_of cost n false (better (plan cost []) x))
    by_last n e none f = rw (le-ltb cost cost (omega arith)) (is_least n e (λ q k. absurd (no_last f q k)))
    by_last n e (plan d s) f = go (ltb d cost) refl (ok.last d s f).0 (ok.last d s f).1
      where
        go : (a : Bool) → ltb d cost ≡ a → Good d (plan_of s) → Lowest job d (plan_of s) → Said (certified plan_of cost n false (cond a (plan d s) (plan cost [])))
        go true q g own = rw q (is_cheaper n d (plan_of s) e g own (ltb-true d cost q))
        go false q g own = rw (le-ltb cost cost (omega arith)) (is_least n e (λ o k. omega (arith, own.least o k, ltb-false d cost q)))

    ends : Said (certify t plan_of cost limit)
    ends =
        let w = limited_fits limit t [] (knowing cost) (omega arith) in
        let x = by_last (0 + count) (omega arith) (whole t).incumbent refl in
        let y = subst (λ (b : Incumbent). Said (certified plan_of cost (0 + count) false b)) (sym (walk-better t [] (plan cost []) ok.bounded)) x in
        subst (λ (l : Limited). Said (certified plan_of cost l.count l.over l.incumbent)) (sym w) y

  -- ---- where it does not

  is_further : (n : ℕ) → n ≡ limit → limit < count → Said (further n)
  is_further n e l = record {
    says_least = ((λ x. absurd x), λ x. absurd (omega (arith, x.1)));
    says_cheaper = ((λ x. absurd x), λ x. absurd (omega (arith, x.1)));
    says_further = ((λ _. l), λ _. tt);
    nodes = omega arith;
    plan_for_lem = tt;
  }

  stops : limit < count → Said (certify t plan_of cost limit)
  stops l =
      let w = limited_cuts limit t [] (knowing cost) (omega arith) (omega arith) in
      go (walk_under t cost limit).over w.0 (is_further (walk_under t cost limit).count w.1 l)
    where
      go : (a : Bool) → a ≡ true → Said (further (walk_under t cost limit).count) → Said (certified plan_of cost (walk_under t cost limit).count a (walk_under t cost limit).incumbent)
      go true e x = x
      go false e x = absurd (true≢false (sym e))

  -- of a tree that stands for the job's plans, the certificate at any known cost and limit keeps its promise
  pub certifies : Certifies job t Good cost limit (certify t plan_of cost limit)
  certifies = by (dec_le count limit)
    where
      by : Dec (count ≤ limit) → Said (certify t plan_of cost limit)
      by (yes l) = ends l
      by (no l) = stops (omega arith)

-- a walk that knows one more than some plan's cost, where it ends, has a good plan
pub known_plan : (job : Job) (t : Tree) (plan_of : List Bool → Plan) (Good : ℕ → Plan → Type 0) → Stands job t plan_of Good → (q : Plan) → KeepsLives job q → (limit : ℕ) → count_under t (suc (cost_of_lem job q)) ≤ limit
    → (n c : ℕ) × (p : Plan) × (certify t plan_of (suc (cost_of_lem job q)) limit ≡ cheaper n c p) × Good c p
known_plan job t plan_of Good ok q k limit l = go (certify t plan_of (suc (cost_of_lem job q)) limit) refl (certifies job t plan_of Good ok (suc (cost_of_lem job q)) limit)
  where
    go : (a : Certificate) → certify t plan_of (suc (cost_of_lem job q)) limit ≡ a → Certifies job t Good (suc (cost_of_lem job q)) limit a
        → (n c : ℕ) × (p : Plan) × (certify t plan_of (suc (cost_of_lem job q)) limit ≡ cheaper n c p) × Good c p
    go (least n) e x = absurd (x.says_cheaper.1 ((q, k, omega arith), l))
    go (cheaper n c p) e x = (n, c, p, e, x.plan_for_lem.0)
    go (further n) e x = absurd (x.says_cheaper.1 ((q, k, omega arith), l))

-- ---- the planner's order, with any admissible estimate: the plan is the planner's

module _ (job : Job) (bound : List Bool → Bound) (ok : Admissible job bound) where
  abbrev tree : Tree
  tree = tree_by job bound

  -- every full node before the whole walk's incumbent costs strictly more than the incumbent
  pub last_strict : (d : ℕ) (s : List Bool) → (whole tree).incumbent ≡ plan d s → Strict tree (plan d s)
  last_strict d s e =
      let n = length (whole tree).nodes in
      let w = ap (λ (l : Limited). l.incumbent) ((limits tree n).within (omega arith)) ∙ e in
      subst (Strict tree) w (strict tree (by_bounded job bound ok) n)

  last_best : (d : ℕ) (s : List Bool) → (whole tree).incumbent ≡ plan d s → BestPlan job Any d (plan_at job s)
  last_best d s e =
      let o = (correct tree (by_bounded job bound ok)).found d s e in
      let b = best_plan (problem_by job bound) (by_laws job bound ok) d s (last_strict d s e) Any o.costs tt (λ t c _ q. o.least t c q) in
      record { keeps = b.keeps; among = b.among; states = b.states; least = b.least; first = b.first; within = b.within }

  -- a best plan of the job is of least cost over all plans that keep the lives
  pub best_lowest : (c : ℕ) (p : Plan) → BestPlan job Any c p → Lowest job c p
  best_lowest c p b = record { keeps = b.keeps; states = b.states; least = λ o k. b.least o k tt }

  -- the planner's tree with an admissible estimate stands for the job's plans, and its last incumbent is the best one
  pub by_stands : Stands job tree (plan_at job) (BestPlan job Any)
  by_stands = record {
    bounded = by_bounded job bound ok;
    node_of = λ q k. let b = (by_laws job bound ok).node_of q k in (decisions_of job q, b.bound, b.node, b.le);
    last = λ d s e. (last_best d s e, best_lowest d (plan_at job s) (last_best d s e));
  }

-- two best plans of a job are one plan
pub best_is_one : (job : Job) (c d : ℕ) (p q : Plan) → BestPlan job Any c p → BestPlan job Any d q → (c ≡ d) × (p ≡ q)
best_is_one job c d p q x y = (best_cost (job_problem job) (determined job) Any c d p q x y, best_same (job_problem job) (determined job) Any c d p q x y)

-- any fair shares certify
pub shared_certifies : (job : Job) (shares : Shares) → FairShares job shares → (cost limit : ℕ)
    → let t = tree_by job (shared_bound job shares) in Certifies job t (BestPlan job Any) cost limit (certify t (plan_at job) cost limit)
shared_certifies job shares fair cost limit =
    certifies job (tree_by job (shared_bound job shares)) (plan_at job) (BestPlan job Any) (by_stands job (shared_bound job shares) (shared_admissible job shares fair)) cost limit
