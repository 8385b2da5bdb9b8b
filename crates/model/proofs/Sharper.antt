-- E4 against the bound before it, which was `stop_cost`: missing exactly where that was missing, and never less. "On every job the new walk has no more points than the old one and,
-- if both finish, the plan is the same." By `fewer` and `same_end` of branch, over the walk before (`specs/Earlier`).
use mathlib.Core.Path.{◌≡◌, refl, sym, ap, ◌∙◌}
use mathlib.Core.Bool.{Bool, true, false}
use mathlib.Core.List.{List, [], ◌++◌, map}
use mathlib.Core.Logic.{◌↔◌}
use Prim.Native.Nat.{ℕ, ◌+◌, ◌≤◌}
use native.Mathlib.Omega.{arith}
use borrow.Author.Tests.{ltb-false}
use lib.ListN.{length}
use Rattle.branch.specs.declared.Bound.{Bound}
use Rattle.branch.specs.declared.Bound.TheVariants.{Missing, Sum}
use Rattle.branch.specs.Search.{NoMore, Bounded, Incumbent, none, plan, Limited, whole, at_most, Sharper}
use Rattle.branch.specs.Lower.{total, largest}
use Rattle.branch.proofs.Bounds.{no_sum_lem}
use Rattle.branch.proofs.Lower.{Rises, split, add_mono, total_mono, add_more, largest_there}
use Rattle.branch.proofs.Asked.{asked_bounded, asked_sharper}
use Rattle.branch.proofs.Fewer.{fewer as sharper-fewer, same_end as sharper-end}
use Rattle.branch.proofs.Limit.{cut as limits}
use Rattle.model.specs.Model.{Job, Plan, fee_of}
use Rattle.model.specs.Decisions.{held_parts}
use Rattle.model.specs.LowerBound.{inner, stops_at, places_at, part_bound, paid_at, stop_cost, undecided_fees, part_fee, bound_of, plan_at}
use Rattle.model.specs.Earlier.{old_tree, old_answer}
use Rattle.model.specs.Promise.{PlannerAnswer, no_plan_lem2, cut_none, cut, optimum, result_of, questions, searched, whole_count, answered, answered_at, answer_of}
use Rattle.model.proofs.Blocks.{grows, places_grow}
use Rattle.model.proofs.Bounded.{part_mono, least_there, paid_rises, full_bound, tree_bounds}

module _ (job : Job) where
  -- ---- the bound before

  stop_rises : Rises (stop_cost job)
  unfolding stop_cost
  stop_rises p t =
      add_mono (Sum (paid_at job p)) (Sum (paid_at job (p ++ t))) (total (part_bound job) (held_parts job) p) (total (part_bound job) (held_parts job) (p ++ t))
      (paid_rises job p t)
      (total_mono (part_bound job) (held_parts job) p (p ++ t)
      (λ held. part_mono job held.part held.part.prices (places_at job held p) (places_at job held (p ++ t)) (places_grow held (grows (inner job) (length job.openings) p t))))

  old_bounds : Bounded (old_tree job)
  old_bounds = asked_bounded (stop_cost job) (questions job) (λ p s _. stop_rises p s)

  -- ---- the two

  -- the bound with E4's term is never less than the bound before it
  pub never_less : (p : List Bool) → NoMore (stop_cost job p) (bound_of job p)
  unfolding bound_of
  never_less p = add_more (stop_cost job p) (largest (part_fee job) (held_parts job) p)

  -- where the bound before E4 is a sum, the new one is a sum no less
  pub there_too : (p : List Bool) (n : ℕ) → stop_cost job p ≡ Sum n → (m : ℕ) × (bound_of job p ≡ Sum m) × (n ≤ m)
  unfolding bound_of stop_cost
  there_too p n e =
      let d = split (Sum (paid_at job p)) (total (part_bound job) (held_parts job) p) n e in
      let l = largest_there (part_bound job) (part_fee job) p
      (λ held m f. least_there job held.part held.part.prices (undecided_fees (map fee_of job.openings) (stops_at job p)) (places_at job held p) m f) (held_parts job) d.b d.right in
      (n + l.0, rw (e, l.1), omega arith)

  -- the bound is missing exactly where the bound before E4 was missing
  pub missing_same : (p : List Bool) → (bound_of job p ≡ Missing) ↔ (stop_cost job p ≡ Missing)
  missing_same p = ((λ e. go (stop_cost job p) refl e), λ e. by e)
    where
      go : (x : Bound) → stop_cost job p ≡ x → bound_of job p ≡ Missing → x ≡ Missing
      go Missing f e = refl
      go (Sum n) f e = let t = there_too p n f in absurd (no_sum_lem (bound_of job p) t.0 e t.1)

      by : stop_cost job p ≡ Missing → bound_of job p ≡ Missing
      by e = unfold bound_of in rw e

  sharper : Sharper (old_tree job) (searched job)
  sharper = asked_sharper (stop_cost job) (bound_of job) never_less (questions job) (λ s full. sym (full_bound job s full))

  -- "On every job the new walk has no more points than the old one"
  pub fewer : whole_count job ≤ length (whole (old_tree job)).nodes
  fewer = sharper-fewer (old_tree job) (searched job) [] none sharper old_bounds (tree_bounds job)

  same_end : (whole (searched job)).incumbent ≡ (whole (old_tree job)).incumbent
  same_end = sharper-end (old_tree job) (searched job) [] none sharper old_bounds (tree_bounds job)

  -- ---- the answers

  -- an answer 0, taken apart
  record Ended (x : Bound) (l : Limited) (n f c : ℕ) (p : Plan) : Type 0 where
    floor : x ≡ Sum f
    count : l.count ≡ n
    over : l.over ≡ false
    name : List Bool
    incumbent : l.incumbent ≡ plan c name
    printed : plan_at job name ≡ p

  not_0 : (a : PlannerAnswer) (n f c : ℕ) (p : Plan) → (result_of a ≡ 0 → ⊥) → a ≡ optimum n f c p → ⊥
  not_0 a n f c p h e = h (ap result_of e)

  ended : (x : Bound) (l : Limited) (n f c : ℕ) (p : Plan) → answered_at job x l ≡ optimum n f c p → Ended x l n f c p
  ended Missing l n f c p e = absurd (not_0 no_plan_lem2 n f c p (λ q. omega arith) e)
  ended (Sum g) l n f c p e = go l.over l.incumbent refl refl e
    where
      go : (o : Bool) (b : Incumbent) → l.over ≡ o → l.incumbent ≡ b → answered job g l.count o b ≡ optimum n f c p → Ended (Sum g) l n f c p
      go true none q r e = absurd (not_0 (cut_none l.count g) n f c p (λ q. omega arith) e)
      go true (plan d s) q r e = absurd (not_0 (cut l.count g d (plan_at job s)) n f c p (λ q. omega arith) e)
      go false none q r e = absurd (not_0 no_plan_lem2 n f c p (λ q. omega arith) e)
      go false (plan d s) q r e =
          let z : g ≡ f = cc in
          let w : d ≡ c = cc in
          record { floor = ap Sum z; count = cc; over = q; name = s; incumbent = r ∙ ap (λ (k : ℕ). plan k s) w; printed = cc }

  -- "and, if both finish, the plan is the same": where the old one finishes so does the new one
  pub same_plan : (limit n f c : ℕ) (p : Plan) → old_answer job limit ≡ optimum n f c p → (m g : ℕ) × (answer_of job limit ≡ optimum m g c p) × (m ≤ n) × (f ≤ g)
  unfolding old_answer answer_of
  same_plan limit n f c p e =
      let o = ended (stop_cost job []) (at_most limit (old_tree job)) n f c p e in
      let old = limits (old_tree job) limit in
      let fits = ltb-false limit (length (whole (old_tree job)).nodes) (sym old.over ∙ o.over) in
      let t = there_too [] f o.floor in
      let new = (limits (searched job) limit).within (omega (arith, fewer)) in
      let last = same_end ∙ ap (λ (l : Limited). l.incumbent) (sym (old.within fits)) ∙ o.incumbent in
      let here = ap (answered_at job (bound_of job [])) new ∙ ap (λ (x : Bound). answered_at job x (record { count = whole_count job; over = false; incumbent = (whole (searched job)).incumbent })) t.1
      ∙ ap (answered job t.0 (whole_count job) false) last ∙ ap (optimum (whole_count job) t.0 c) o.printed in
      (whole_count job, t.0, here, omega (arith, fewer, old.count, o.count), t.2)
