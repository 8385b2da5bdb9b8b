-- The walk from sources, with lifts of the levels behind, ends with the least cost from these sources; so from free sources it gives the lift of its level, and the lifts of all levels come one after the
-- other, from the last level down. With those of all levels the walk of the job has the planner's plan.
use mathlib.Core.Path.{◌≡◌, refl, sym, ap, ap₂, subst, ◌∙◌}
use mathlib.Core.Bool.{Bool, false}
use mathlib.Core.List.{List, [], ◌++◌}
use Prim.Native.Nat.{ℕ, zero, suc, ◌+◌, ◌-◌, ◌≤◌, ◌<◌}
use native.Mathlib.Omega.{arith}
use native.Mathlib.Decide.{dec_le}
use lib.ListN.{length, replicate}
use Rattle.branch.specs.declared.Bound.{Bound}
use Rattle.branch.specs.declared.Bound.TheVariants.{Missing, Sum}
use Rattle.branch.specs.Lower.{add}
use Rattle.branch.specs.Search.{NoMore, Bounded, cost_at, plan}
use Rattle.branch.specs.Questions.{Full, done, repeated, asked}
use Rattle.branch.proofs.Asked.{asked_cost, asked_bounded}
use Rattle.branch.proofs.Lower.{add-zero, add_mono}
use Rattle.model.specs.Model.{Job}
use Rattle.model.specs.Decisions.{Held}
use Rattle.model.specs.LowerBound.{blocks, inner, plan_at}
use Rattle.model.specs.Promise.{BestPlan, Any}
use Rattle.model.proofs.Blocks.{grows, wholes_length, full_blocks}
use Rattle.shares.specs.Shares.{Shares, FairShares, Grown, estimate}
use Rattle.shares.specs.Optimum.{tree_by}
use Rattle.known_cost.specs.Known.{walk_under}
use Rattle.known_cost.proofs.Ended.{ended_least}
use Rattle.shares.specs.Certificate.{Certifies, certify}
use Rattle.shares.specs.Lift.{Lifted, lifted_bound}
use Rattle.shares.specs.Sources.{Sources, mark_of, Within, estimate_from, questions_from, behind, rest_free, top_of, free_at, tops, free_bound, LiftsAll}
use Rattle.shares.specs.Dolls.{LiftedFrom, level_from, sourced_bound, sourced_tree, free_tree}
use Rattle.shares.proofs.Shared.{grows_grown}
use Rattle.model.proofs.Lower.{no_more_refl, no_more_trans}
use Rattle.shares.proofs.Lifted.{level_node_lem, Below, level_fits, below, lifted_certifies}
use Rattle.shares.proofs.Gap.{free_within}
use Rattle.shares.proofs.Free.{none_lifts, first_life, estimate_first, lifts_job}
use Rattle.shares.proofs.Sourced.{sourced_rises}

-- ---- blocks behind a level

grown_behind : (l : ℕ) (bs ds : List (List Bool)) → Grown bs ds → Grown (replicate l [] ++ bs) (replicate l [] ++ ds)
grown_behind zero bs ds g k = g k
grown_behind (suc l) bs ds g zero = ([], refl)
grown_behind (suc l) bs ds g (suc k) = grown_behind l bs ds g k

more_there : (f : ℕ) (y : Bound) → ((d : ℕ) → y ≡ Sum d → f ≤ d) → NoMore (Sum f) y
more_there f Missing h = tt
more_there f (Sum d) h = h d refl

module _ (job : Job) (shares : Shares) (fair : FairShares job shares) where
  abbrev h : ℕ
  h = inner job

  abbrev n : ℕ
  n = length job.openings

  -- below a node, at a later level, a lift of that level counts for the node too
  module _ (l : ℕ) (fits : l ≤ n) (src : Sources) (w : (i : ℕ) (held : Held) → Within (mark_of job held) l (src i held)) where
    abbrev cost : List Bool → Bound
    cost s = estimate_from job shares l src (behind job l s)

    at_level : (p s : List Bool) → Full (questions_from job l) (p ++ s) → (k f : ℕ) → l ≤ k → Below h (n - l) (k - l) p s → LiftsAll job shares k f → NoMore (add (cost p) (Sum f)) (cost (p ++ s))
    at_level p s full k f u b all =
        let x = all l src b.name b.rest u w b.level (subst (Full (questions_from job l)) (sym b.same) full) in
        let y = add_mono (cost p) (cost b.name) (Sum f) (Sum f)
        (sourced_rises job shares l fits src fair (behind job l p) (behind job l b.name) (grown_behind l (blocks h (n - l) p) (blocks h (n - l) b.name) b.grown)) (no_more_refl (Sum f)) in
        no_more_trans (add (cost p) (Sum f)) (add (cost b.name) (Sum f)) (cost (p ++ s)) y (subst (λ (q : List Bool). NoMore (add (cost b.name) (Sum f)) (cost q)) b.same x)

  -- ---- the tree from sources

  module _ (lift : ℕ → ℕ) (l : ℕ) (fits : l ≤ n) (ok : LiftedFrom job shares l lift) (src : Sources) (w : (i : ℕ) (held : Held) → Within (mark_of job held) l (src i held)) where
    sourced_lower : (p s : List Bool) → Full (questions_from job l) (p ++ s) → NoMore (sourced_bound job shares lift l src p) (cost l fits src w (p ++ s))
    sourced_lower p s full =
        let u = level_fits h (n - l) p s full in
        let k = level_from job l p in
        at_level l fits src w p s full k (lift k) (omega arith) (below h (n - l) p s full (k - l) (omega arith) (omega arith)) (ok.each k (omega arith) (omega arith))

    -- a full node has the cost from the sources
    sourced_full : (s : List Bool) → Full (questions_from job l) s → sourced_bound job shares lift l src s ≡ estimate_from job shares l src (behind job l s)
    sourced_full s full =
        let z : level_from job l s ≡ n = omega (arith, wholes_length h (n - l) (blocks h (n - l) s) (full_blocks h (n - l) s full).0) in
        ap (λ (f : ℕ). add (cost l fits src w s) (Sum f)) (ap lift z ∙ ok.last) ∙ add-zero (cost l fits src w s)

    -- no full node of the walk from sources costs less than the estimate with lifts of a node above it
    pub sourced_bounded : Bounded (sourced_tree job shares lift l src)
    sourced_bounded = asked_bounded (sourced_bound job shares lift l src) (questions_from job l) (λ p s full. subst (NoMore (sourced_bound job shares lift l src p)) (sym (sourced_full (p ++ s) full)) (sourced_lower p s full))

    -- a full node of the walk from sources costs what its decisions cost from these sources
    pub sourced_cost : (s : List Bool) → Full (questions_from job l) s → cost_at (sourced_tree job shares lift l src) s ≡ estimate_from job shares l src (behind job l s)
    sourced_cost s full = asked_cost (sourced_bound job shares lift l src) (questions_from job l) s full ∙ sourced_full s full

    -- a walk from any cutoff that ends: no completion from the sources costs less than what it ends with
    pub sourced_least : (cutoff limit : ℕ) → (walk_under (sourced_tree job shares lift l src) cutoff limit).over ≡ false → (c : ℕ) (r : List Bool) → (walk_under (sourced_tree job shares lift l src) cutoff limit).incumbent ≡ plan c r
        → (s : List Bool) → Full (questions_from job l) s → NoMore (Sum c) (estimate_from job shares l src (behind job l s))
    sourced_least cutoff limit over c r e s full =
        more_there c (estimate_from job shares l src (behind job l s)) (λ d q. ended_least (sourced_tree job shares lift l src) sourced_bounded cutoff limit over c r e s d (sourced_cost s full ∙ q))

  -- ---- one level: the walk from the free sources, from any cutoff, where it ends. Where it finds nothing it ends with the cutoff

  free_sources : (l : ℕ) (i : ℕ) (held : Held) → Within (mark_of job held) l (free_at job shares l i held)
  free_sources l i held = free_within (rest_free job shares l i held) (mark_of job held) (top_of job shares l i held) l

  -- a walk from the free sources that ends at c lifts its level by what c is above the tops
  pub search_lifts : (lift : ℕ → ℕ) (l : ℕ) → l ≤ n → LiftedFrom job shares l lift
      → (cutoff limit : ℕ) → (walk_under (free_tree job shares lift l) cutoff limit).over ≡ false → (c : ℕ) (r : List Bool) → (walk_under (free_tree job shares lift l) cutoff limit).incumbent ≡ plan c r
      → (f : ℕ) → tops job shares l + f ≤ c → LiftsAll job shares l f
  search_lifts lift l fits ok cutoff limit over c r e f t =
      none_lifts job shares l f fits (λ s full. no_more_trans (Sum (tops job shares l + f)) (Sum c) (free_bound job shares l s) t (sourced_least lift l fits ok (free_at job shares l) (free_sources l) cutoff limit over c r e s full))

  -- ---- lifts without a search: none, and that of the next level

  -- every level has the lift 0, whatever the sources
  pub lifts_none : (k : ℕ) → k ≤ n → LiftsAll job shares k 0
  lifts_none k fits l src p s le w up_to full =
      subst (λ (x : Bound). NoMore x (estimate_from job shares l src (behind job l (p ++ s)))) (sym (add-zero (estimate_from job shares l src (behind job l p))))
      (sourced_rises job shares l (omega arith) src fair (behind job l p) (behind job l (p ++ s))
      (grown_behind l (blocks h (n - l) p) (blocks h (n - l) (p ++ s)) (grows_grown (grows h (n - l) p s))))

  -- a lift may be less
  less_more : (x y : Bound) (f g : ℕ) → f ≤ g → NoMore (add x (Sum g)) y → NoMore (add x (Sum f)) y
  less_more x Missing f g l u = tt
  less_more Missing (Sum y) f g l u = u
  less_more (Sum x) (Sum y) f g l u = omega arith

  -- less than a lift of a level is a lift of it too
  pub lifts_less : (k f g : ℕ) → f ≤ g → LiftsAll job shares k g → LiftsAll job shares k f
  lifts_less k f g u all l src p s le w up_to full = less_more (estimate_from job shares l src (behind job l p)) (estimate_from job shares l src (behind job l (p ++ s))) f g u (all l src p s le w up_to full)

  -- a lift of a level is one of each level before
  pub lifts_before : (k m f : ℕ) → k ≤ m → m ≤ n → LiftsAll job shares m f → LiftsAll job shares k f
  lifts_before k m f u fits all l src p s le w up_to full =
      let first = full_blocks h (k - l) p up_to in
      let e : blocks h (n - l) p ≡ blocks h (k - l) p = ap (blocks h (n - l)) (sym first.1) ∙ level_node_lem h (n - l) (k - l) (blocks h (k - l) p) first.0 (omega arith) in
      let size : length (blocks h (n - l) p) ≡ k - l = ap length e ∙ wholes_length h (k - l) (blocks h (k - l) p) first.0 in
      at_level l (omega arith) src w p s full m f (omega arith) (below h (n - l) p s full (m - l) (omega (arith, size)) (omega arith)) all

  -- ---- level by level

  -- the lift 0 at every level, to start from
  abbrev pub no_lift : ℕ → ℕ
  no_lift k = 0

  -- from the last level on, lifts of 0 are good from any sources
  pub last_level : LiftedFrom job shares n no_lift
  last_level = record { each = λ k _ u. lifts_none k u; last = refl }

  -- one level more, with what was found there
  pub next_level : (lift new : ℕ → ℕ) (l : ℕ) → l < n → LiftedFrom job shares (suc l) lift → ((k : ℕ) → l < k → new k ≡ lift k) → LiftsAll job shares l (new l) → LiftedFrom job shares l new
  next_level lift new l u ok same all = record { each = at; last = same n u ∙ ok.last }
    where
      at : (k : ℕ) → l ≤ k → k ≤ n → LiftsAll job shares k (new k)
      at k a b = go (dec_le k l)
        where
          go : Dec (k ≤ l) → LiftsAll job shares k (new k)
          go (yes v) = let z : l ≡ k = omega arith in subst (λ (j : ℕ). LiftsAll job shares j (new j)) z all
          go (no v) = subst (LiftsAll job shares k) (sym (same k (omega arith))) (ok.each k (omega arith) b)

  -- all levels: the job's lifts
  pub all_lifted : (lift : ℕ → ℕ) → LiftedFrom job shares 0 lift → Lifted job shares lift
  all_lifted lift ok = record { each = λ l u. lifts_job job shares l (lift l) (ok.each l (omega arith) u); last = ok.last }

  -- so the walk of the job with them, from any cutoff, says what is right: no plan costs less, or the planner's plan
  pub dolls_certify : (lift : ℕ → ℕ) → LiftedFrom job shares 0 lift → (cutoff limit : ℕ)
      → let t = tree_by job (lifted_bound job shares lift) in Certifies job t (BestPlan job Any) cutoff limit (certify t (plan_at job) cutoff limit)
  dolls_certify lift ok = lifted_certifies job shares fair lift (all_lifted lift ok)

  -- ---- the job's own walk is the walk from level 0 with each part's first life for its only source: one program walks both

  first_bound : (lift : ℕ → ℕ) (p : List Bool) → sourced_bound job shares lift 0 (first_life job shares) p ≡ lifted_bound job shares lift p
  first_bound lift p =
      let z : n - 0 ≡ n = omega arith in
      let y : level_from job 0 p ≡ length (blocks h n p) = omega (arith, ap (λ (m : ℕ). length (blocks h m p)) z) in
      ap₂ (λ (x : Bound) (m : ℕ). add x (Sum (lift m))) (estimate_first job shares (behind job 0 p) ∙ ap (λ (m : ℕ). estimate job shares (blocks h m p)) z) y

  -- the walk from level 0 with the first lives as sources is the job's own walk with lifts
  pub first_tree : (lift : ℕ → ℕ) → sourced_tree job shares lift 0 (first_life job shares) ≡ tree_by job (lifted_bound job shares lift)
  first_tree lift =
      let z : n - 0 ≡ n = omega arith in
      λ i. asked (λ p. first_bound lift p i) (repeated (z i) (repeated h done done) done)
