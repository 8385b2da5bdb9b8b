-- What the end of a walk is worth, where the shares are fair and the lifts are good. Of the job's own walk: a plan that it found is the planner's, at every walk number that lets that end; where it found none, no plan
-- costs less than what was known; and it is cut exactly where it has more nodes than the limit. Of a walk from the free sources of a level that ends: what it ends with lifts that level.
use Prim.Native.Nat.{ℕ, ◌+◌, ◌≤◌, ◌<◌}
use mathlib.Core.Path.{◌≡◌, sym, ap, subst, ◌∙◌}
use mathlib.Core.Bool.{Bool, true, false, cond}
use mathlib.Core.List.{List}
use lib.ListN.{length, take}
use borrow.Author.Tests.{lt-ltb, le-ltb}
use Rattle.branch.specs.Search.{Tree, Limited, plan}
use Rattle.known_cost.specs.Known.{walk_under, count_under}
use Rattle.model.specs.Model.{Job}
use Rattle.model.specs.Decisions.{Held}
use Rattle.model.specs.LowerBound.{plan_at}
use Rattle.model.specs.Promise.{BestPlan, Any}
use Rattle.shares.specs.Shares.{Shares, FairShares}
use Rattle.shares.specs.Optimum.{tree_by}
use Rattle.shares.specs.Certificate.{Certificate, least, cheaper, certified, Certifies, NoneUnder}
use Rattle.shares.specs.Lift.{lifted_bound}
use Rattle.shares.specs.Sources.{tops, LiftsAll}
use Rattle.shares.specs.Dolls.{LiftedFrom}
use Rattle.shares.proofs.Dolls.{dolls_certify, first_tree, search_lifts}
use Rattle.share_walk.specs.declared.State.{State}
use Rattle.share_walk.specs.State.{view, course_under}
use Rattle.share_walk.specs.Courses.{job_course, free_course}

module _ (job : Job) (shares : Shares) (fair : FairShares job shares) (lanes : List Held) (lift : ℕ → ℕ) where
  module _ (lifted : LiftedFrom job shares 0 lift) (cost limit : ℕ) (best : List Bool) (r : State)
      (e : view r best ≡ course_under job shares (job_course lanes lift) cost limit) where
    -- the planner's tree with this estimate
    abbrev tree : Tree
    tree = tree_by job (lifted_bound job shares lift)

    -- the certificate that the state gives
    abbrev Says : Certificate → Type 0
    Says a = Certifies job tree (BestPlan job Any) cost limit a

    says : Says (certified (plan_at job) cost r.count r.over (plan r.cost (take r.size best)))
    says =
        subst (λ (l : Limited). Says (certified (plan_at job) cost l.count l.over l.incumbent)) (sym (e ∙ ap (λ (t : Tree). walk_under t cost limit) (first_tree job shares fair lift)))
        (dolls_certify job shares fair lift lifted cost limit)

    -- a plan is found: it is the best of all, by the tie rule too
    pub found_best : r.over ≡ false → r.cost < cost → BestPlan job Any r.cost (plan_at job (take r.size best))
    found_best o l =
        (subst (λ (c : Certificate). Says c) (ap (λ (b : Bool). certified (plan_at job) cost r.count b (plan r.cost (take r.size best))) o ∙ ap (λ (b : Bool). cond b (cheaper r.count r.cost (plan_at job (take r.size best))) (least r.count)) (lt-ltb r.cost cost l)) says).plan_for_lem.0

    -- none is: no plan costs less than what was known
    pub nothing_less : r.over ≡ false → cost ≤ r.cost → NoneUnder job cost
    nothing_less o l =
        ((subst (λ (c : Certificate). Says c) (ap (λ (b : Bool). certified (plan_at job) cost r.count b (plan r.cost (take r.size best))) o ∙ ap (λ (b : Bool). cond b (cheaper r.count r.cost (plan_at job (take r.size best))) (least r.count)) (le-ltb r.cost cost l)) says).says_least.0 tt).0

    -- it is cut exactly where the walk has more nodes than the limit
    pub cut_longer : r.over ≡ true → limit < count_under tree cost
    cut_longer o = (subst (λ (c : Certificate). Says c) (ap (λ (b : Bool). certified (plan_at job) cost r.count b (plan r.cost (take r.size best))) o) says).says_further.0 tt

  -- a walk from the free sources of a level that was not cut: what it ends with, less the tops, lifts the level
  pub ended_lifts : (level : ℕ) → level ≤ length job.openings → LiftedFrom job shares level lift → (cost limit : ℕ) (best : List Bool) (r : State)
      → view r best ≡ course_under job shares (free_course job shares lanes lift level) cost limit → r.over ≡ false → (f : ℕ) → tops job shares level + f ≤ r.cost → LiftsAll job shares level f
  ended_lifts level fits lifted cost limit best r e o f t =
      search_lifts job shares fair lift level fits lifted cost limit (sym (ap (λ (l : Limited). l.over) e) ∙ o) r.cost (take r.size best) (sym (ap (λ (l : Limited). l.incumbent) e)) f t
