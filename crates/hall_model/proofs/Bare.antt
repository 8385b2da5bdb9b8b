-- A stop of one line without a change could be left out: the hall plan without it decides earlier in walk order, keeps every life and costs no more, calls included.
use mathlib.Core.Path.{◌≡◌, refl, sym, ap, subst, ◌∙◌}
use mathlib.Core.Bool.{Bool, true, false, cond}
use mathlib.Core.List.{List, [], ◌∷◌}
use mathlib.Core.Logic.{inl, inr, ⊎_elim}
use Prim.Native.Nat.{ℕ, zero, suc, ◌≤◌, ◌<◌}
use native.Mathlib.Omega.{arith}
use native.Mathlib.Decide.{ℕ_discrete}
use lib.ListN.{length, get_or, set}
use lib.Seq.{get_or-set_other, get_or-set_same}
use Rattle.branch.specs.Search.{Before, here}
use Rattle.branch.proofs.First.{asym}
use Rattle.model.specs.Model.{Job, Plan, out_at, cost_of_lem, Each, KeepsLives}
use Rattle.model.specs.Decisions.{of_holders, block_of, plan_blocks, decisions_of, changed_at_lem}
use Rattle.base.proofs.Bools.{inside}
use Rattle.model.proofs.Lists.{table-length, table_at}
use Rattle.model.proofs.Nodes.{each_table}
use Rattle.model.proofs.BestPlans.{without, before_off, unstopped}
use Rattle.hall_model.specs.Hall.{Hall, Proper, Placed, costs_of, hall_cost, KeepsAll}
use Rattle.hall_model.specs.Agenda.{crew_steps, name_for}
use Rattle.hall_model.specs.Decisions.{hall_decisions}
use Rattle.hall_model.proofs.Order.{NotAfter}
use Rattle.hall_model.proofs.Plans.{no_plan_lem, each_placed, turns_of, plan_turns, plan_column, plan_dealt, decisions_spelled, told, calls_turns}
use Rattle.hall_model.proofs.After.{LineAfter, decisions_after, fewer_calls}

-- ---- another plan for one line

each_set : (R : Job → Plan → Type 0) (jobs : List Job) (plans : List Plan) (d : ℕ) (job : Job) (x : Plan) → Placed jobs d job → R job x → Each R jobs plans → Each R jobs (set plans d x)
each_set R [] plans d job x at r e = absurd at
each_set R (j ∷ jobs) [] d job x at r e = absurd e
each_set R (j ∷ jobs) (p ∷ plans) zero job x at r e = (subst (λ (y : Job). R y x) (sym at) r, e.1)
each_set R (j ∷ jobs) (p ∷ plans) (suc d) job x at r e = (e.0, each_set R jobs plans d job x at r e.1)

costs_set : (R : Job → Plan → Type 0) (jobs : List Job) (plans : List Plan) (d : ℕ) (job : Job) (x : Plan) → Placed jobs d job → Each R jobs plans → cost_of_lem job x ≤ cost_of_lem job (get_or plans d no_plan_lem)
    → costs_of jobs (set plans d x) ≤ costs_of jobs plans
costs_set R [] plans d job x at e l = absurd at
costs_set R (j ∷ jobs) [] d job x at e l = absurd e
costs_set R (j ∷ jobs) (p ∷ plans) zero job x at e l =
    let m : cost_of_lem j x ≤ cost_of_lem j p = subst (λ (y : Job). cost_of_lem y x ≤ cost_of_lem y p) (sym at) l in
    omega arith
costs_set R (j ∷ jobs) (p ∷ plans) (suc d) job x at e l = omega (arith, costs_set R jobs plans d job x at e.1 l)

placed_in : (R : Job → Plan → Type 0) (jobs : List Job) (plans : List Plan) (d : ℕ) (job : Job) → Placed jobs d job → Each R jobs plans → d < length plans
placed_in R [] plans d job at e = absurd at
placed_in R (j ∷ jobs) [] d job at e = absurd e
placed_in R (j ∷ jobs) (p ∷ plans) zero job at e = omega arith
placed_in R (j ∷ jobs) (p ∷ plans) (suc d) job at e = omega (arith, placed_in R jobs plans d job at e.1)

-- ---- blocks

blocks_same : (bs : List (List Bool)) → Each NotAfter bs bs
blocks_same [] = tt
blocks_same (b ∷ bs) = (inl refl, blocks_same bs)

-- without a stop, a plan's blocks are the same, or say no
block_off : (job : Job) (q : Plan) (i : ℕ) → get_or q.stops i false ≡ true → (k : ℕ) → NotAfter (block_of job (without q i) k) (block_of job q k)
block_off job q i t k = go (ℕ_discrete k i)
  where
    block : Bool → List Bool
    block b = cond b (true ∷ of_holders job (out_at job q.changes k)) (false ∷ [])

    go : Dec (k ≡ i) → NotAfter (block (get_or (set q.stops i false) k false)) (block (get_or q.stops k false))
    go (no n) = inl (ap block (get_or-set_other q.stops i k false false n))
    go (yes e) =
        let off : get_or (set q.stops i false) k false ≡ false = ap (λ (m : ℕ). get_or (set q.stops i false) m false) e ∙ get_or-set_same q.stops i false false (inside q.stops i t) in
        let on : get_or q.stops k false ≡ true = ap (λ (m : ℕ). get_or q.stops m false) e ∙ t in
        inr (rw (off, on) here)

blocks_off : (job : Job) (q : Plan) (i : ℕ) → get_or q.stops i false ≡ true → Each NotAfter (plan_blocks job (without q i)) (plan_blocks job q)
blocks_off job q i t =
    let n = length job.openings in
    each_table NotAfter (block_of job (without q i)) n (plan_blocks job q) [] (table-length (block_of job q) n)
    (λ k l. rw (table_at (block_of job q) n k [] l) (block_off job q i t k))

module _ (hall : Hall) (proper : Proper hall) (plans : List Plan) (keeps : KeepsAll hall plans) (d : ℕ) (job : Job) (at : Placed hall.jobs d job) (i : ℕ)
    (stops : get_or (get_or plans d no_plan_lem).stops i false ≡ true) (bare : changed_at_lem (get_or plans d no_plan_lem).changes i ≡ false) where
  abbrev jobs : List Job
  jobs = hall.jobs

  abbrev steps : List ℕ
  steps = crew_steps hall

  abbrev own : Plan
  own = get_or plans d no_plan_lem

  own_keeps : KeepsLives job own
  own_keeps = each_placed KeepsLives jobs plans keeps d job at

  -- the hall plan with the stop at opening i taken out of this line's plan
  abbrev pub off : List Plan
  off = set plans d (without own i)

  -- without its bare stop the hall plan still keeps every life
  pub off_keeps : KeepsAll hall off
  off_keeps = each_set KeepsLives jobs plans d job (without own i) at (unstopped job own i own_keeps bare).0 keeps

  d_in : d < length plans
  d_in = placed_in KeepsLives jobs plans d job at keeps

  line_off : (e : ℕ) (x : Job) → Placed jobs e x → LineAfter hall proper off off_keeps (turns_of jobs plans steps) (plan_turns jobs plans keeps steps) e x
  line_off e x y = record {
    blocks = plan_blocks x (get_or plans e no_plan_lem);
    dealt = rw (plan_column jobs plans keeps e x y steps) (plan_dealt hall proper e x y (get_or plans e no_plan_lem));
    after = go (ℕ_discrete e d);
  }
    where
      go : Dec (e ≡ d) → Each NotAfter (plan_blocks x (get_or off e no_plan_lem)) (plan_blocks x (get_or plans e no_plan_lem))
      go (no n) = rw (get_or-set_other plans d e (without own i) no_plan_lem n) (blocks_same (plan_blocks x (get_or plans e no_plan_lem)))
      go (yes q) = rw (q, get_or-set_same plans d (without own i) no_plan_lem d_in) (blocks_off x own i stops)

  -- without its bare stop the hall plan's decisions come earlier in walk order
  pub off_before : Before (hall_decisions hall off) (hall_decisions hall plans)
  off_before = ⊎_elim (λ e. absurd (differ (e ∙ sym (decisions_spelled hall proper plans keeps)))) (λ h. rw (decisions_spelled hall proper plans keeps) h)
      (decisions_after hall proper off off_keeps (turns_of jobs plans steps) (plan_turns jobs plans keeps steps) line_off)
    where
      differ : hall_decisions hall off ≡ hall_decisions hall plans → ⊥
      differ e =
          let same : decisions_of job (without own i) ≡ decisions_of job own =
          sym (ap (decisions_of job) (get_or-set_same plans d (without own i) no_plan_lem d_in)) ∙ sym (told hall proper off off_keeps d job at)
          ∙ ap (name_for hall (record { place = d; job = job })) e ∙ told hall proper plans keeps d job at in
          let h = before_off job own i own_keeps.size stops in
          asym h (subst (λ (l : List Bool). Before (decisions_of job own) l) (sym same) (subst (λ (l : List Bool). Before l (decisions_of job own)) same h))

  -- without its bare stop the hall plan costs no more, calls included
  pub off_cost : hall_cost hall off ≤ hall_cost hall plans
  off_cost =
      omega (
        arith,
        costs_set KeepsLives jobs plans d job (without own i) at keeps (unstopped job own i own_keeps bare).1,
        fewer_calls hall proper off off_keeps (turns_of jobs plans steps) (plan_turns jobs plans keeps steps) line_off,
        calls_turns hall proper plans keeps,
      )
