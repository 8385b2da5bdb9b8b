-- Whether a node's bound is missing, without bounds, where the job has no holders: it is there exactly if each part is kept by changes at all yes and undecided openings of the node. Below a node with a bound, yes
-- always has one, and no has one exactly if the place behind the next opening comes in time after the last yes. By recursion over the parts.
use mathlib.Core.Path.{◌≡◌, refl, sym, ap, ◌∙◌}
use mathlib.Core.Bool.{Bool, true, false, ◌&&◌, and-eq-true_iff, false≢true}
use mathlib.Core.List.{List, [], ◌∷◌, ◌++◌}
use mathlib.Core.Logic.{◌↔◌}
use Prim.Native.Nat.{ℕ, suc, ◌≤◌, ◌<◌}
use native.Mathlib.Omega.{arith}
use lib.ListN.{length, length-append, drop}
use lib.Seq.{take_all}
use lib.IntN.{ℤ, pos}
use Rattle.branch.specs.declared.Bound.{Bound}
use Rattle.branch.specs.declared.Bound.TheVariants.{Missing, Sum}
use Rattle.branch.specs.Search.{snoc}
use Rattle.branch.specs.Lower.{add, total}
use Rattle.branch.specs.Open.{present}
use Rattle.branch.proofs.Bounds.{there_is}
use Rattle.branch.proofs.Open.{missing_not}
use Rattle.model.specs.LastYes.{last_yes}
use Rattle.model.specs.Model.{Part, Job, NoHolders, positions, last_change_lem, end, within, kept, kept_by, select, sum_at}
use Rattle.model.specs.Decisions.{charged, held_at, held_from, held_parts}
use Rattle.model.specs.LowerBound.{paid_at, least_over, choice_over, part_bound, stop_cost, bound_of}
use Rattle.model.specs.Ordered.{Lefts, Ordered}
use Rattle.longest_walk.specs.Count.{in_time_lem, each_reaches, reaches, each_kept}
use Rattle.base.proofs.Bools.{same_test, inside}
use Rattle.model.proofs.Positions.{positions_size}
use Rattle.model.proofs.LastYes.{job_climbs, first_climbs}
use Rattle.model.proofs.Offers.{KeepsOver, part_most, part_found}
use Rattle.model.proofs.Sharper.{missing_same}
use Rattle.longest_walk.proofs.Undecided.{open_to, open-size, open_at, open-split, yes_same, parted, no_less, last_is, next_is, without}
use Rattle.model.proofs.MoreChanges.{select_empty, kept_more}
use Rattle.model.proofs.NoHolders.{same_places}

-- ---- one part at a node

module _ (job : Job) where
  -- changes at all yes and undecided openings of the node p keep the part
  abbrev open_kept : List Bool → Part → Bool
  open_kept p part = kept (pos part.life) (end job) (last_change_lem part) (select (positions job) p ++ drop (length p) (positions job))

  module _ (o : Ordered job) (part : Part) (h : part.left ≤ part.life) (ns : List ℕ) (p : List Bool) where
    all : List Bool
    all = open_to (length (positions job)) p

    all_is : kept_by job part all ≡ open_kept p part
    unfolding all
    all_is = ap (kept (pos part.life) (end job) (last_change_lem part)) (open-split (positions job) p)

    keeps_all : kept_by job part all ≡ true → KeepsOver job part p all
    unfolding all
    keeps_all k = record {
      size = open-size (length (positions job)) p ∙ positions_size job;
      at_open = λ i t. sym (open_at (length (positions job)) p i (omega (arith, inside all i t, open-size (length (positions job)) p))) ∙ t;
      lives = k;
    }

    all_keeps : (cs : List Bool) → KeepsOver job part p cs → kept_by job part all ≡ true
    unfolding all
    all_keeps cs k =
        kept_more (pos part.life) (end job) (last_change_lem part) (positions job) cs all (first_climbs (end job) (positions job) part.left part.life h (job_climbs job o.rising))
        (λ i t. open_at (length (positions job)) p i (omega (arith, inside cs i t, k.size, positions_size job)) ∙ k.at_open i t) k.lives

    -- a part's least sum is there exactly if changes at all yes and undecided openings keep it
    pub part_there : present (least_over job part ns p) ≡ open_kept p part
    part_there = same_test (present (least_over job part ns p)) (open_kept p part) (λ t. to (least_over job part ns p) refl t) from
      where
        to : (x : Bound) → least_over job part ns p ≡ x → present x ≡ true → open_kept p part ≡ true
        to Missing e t = absurd (false≢true t)
        to (Sum n) e t = sym all_is ∙ all_keeps (choice_over job part ns p) (part_found job part ns p n e).0

        from : open_kept p part ≡ true → present (least_over job part ns p) ≡ true
        from k = let m = there_is (least_over job part ns p) (sum_at ns all) (part_most job part ns p all (keeps_all (all_is ∙ k))) in ap present m.1

  -- ---- the node

  -- the same of each of these parts
  all_kept : List Bool → List Part → Bool
  all_kept p [] = true
  all_kept p (part ∷ parts) = open_kept p part && all_kept p parts

  there_add : (x y : Bound) → present (add x y) ≡ (present x && present y)
  there_add Missing y = refl
  there_add (Sum a) Missing = refl
  there_add (Sum a) (Sum b) = refl

  same_there : (x y : Bound) → (x ≡ Missing) ↔ (y ≡ Missing) → present x ≡ present y
  same_there Missing y h = sym ((missing_not y).1 (h.0 refl))
  same_there (Sum a) Missing h = (missing_not (Sum a)).1 (h.1 refl)
  same_there (Sum a) (Sum b) h = refl

  module _ (o : Ordered job) (none : NoHolders job.parts) where
    -- without holders a part has the node's openings for places, and its removal changes no gap
    held_there : (i : ℕ) (part : Part) → part.left ≤ part.life → (p : List Bool) → length p ≤ length job.openings → present (part_bound job (held_at job i part) p) ≡ open_kept p part
    held_there i part h p l =
        ap (λ (q : List Bool). present (least_over job (charged job i part) (charged job i part).prices q)) (same_places job none i part p ∙ take_all (length job.openings) p l)
        ∙ part_there o (charged job i part) h (charged job i part).prices p

    total_there : (i : ℕ) (p : List Bool) (l : length p ≤ length job.openings) (parts : List Part) → Lefts parts → present (total (part_bound job) (held_from job i parts) p) ≡ all_kept p parts
    unfolding all_kept held_from
    total_there i p l [] h = refl
    total_there i p l (part ∷ parts) h =
        there_add (part_bound job (held_at job i part) p) (total (part_bound job) (held_from job (suc i) parts) p)
        ∙ (λ k. held_there i part h.0 p l k && total_there (suc i) p l parts h.1 k)

    node_there : (p : List Bool) → length p ≤ length job.openings → present (bound_of job p) ≡ all_kept p job.parts
    unfolding stop_cost
    node_there p l =
        same_there (bound_of job p) (stop_cost job p) (missing_same job p)
        ∙ there_add (Sum (paid_at job p)) (total (part_bound job) (held_parts job) p) ∙ total_there 0 p l job.parts o.lefts

    -- the root's bound is there exactly if changes at all openings keep each part
    pub root_there : present (bound_of job []) ≡ each_kept job job.parts
    unfolding all_kept each_kept
    root_there = node_there [] (omega arith) ∙ go job.parts
      where
        go : (parts : List Part) → all_kept [] parts ≡ each_kept job parts
        go [] = refl
        go (part ∷ parts) =
            (λ i. kept (pos part.life) (end job) (last_change_lem part) (select_empty (positions job) i ++ positions job) && go parts i)

    module _ (p : List Bool) (l : length p < length job.openings) where
      inner : length p < length (positions job)
      inner = omega (arith, positions_size job)

      within_size : (x : Bool) → length (snoc p x) ≤ length job.openings
      within_size x = simp length-append (omega arith)

      -- below a node with a bound, yes has one
      pub yes_there : present (bound_of job (snoc p true)) ≡ present (bound_of job p)
      unfolding all_kept
      yes_there = node_there (snoc p true) (within_size true) ∙ go job.parts ∙ sym (node_there p (omega arith))
        where
          go : (parts : List Part) → all_kept (snoc p true) parts ≡ all_kept p parts
          go [] = refl
          go (part ∷ parts) =
              (λ i. kept (pos part.life) (end job) (last_change_lem part) (yes_same (positions job) p inner i) && go parts i)

      no_part : (part : Part) → open_kept p part ≡ true → open_kept (snoc p false) part ≡ in_time_lem (pos part.life) (end job) (last_change_lem part) (positions job) (last_yes p) (suc (length p))
      no_part part k =
          let s = parted (positions job) (length p) inner in
          let L = pos part.life in
          let E = end job in
          let P = last_change_lem part in
          let xs = select (positions job) p in
          let zs = drop (suc (length p)) (positions job) in
          ap (kept L E P) (no_less (positions job) p)
          ∙ without L E P s.first xs zs (ap (λ (r : List ℤ). kept L E P (xs ++ r)) (sym s.split) ∙ k)
          ∙ (λ i. within L (last_is (last_change_lem part) (positions job) p (omega (arith, inner)) i) (next_is E (positions job) (suc (length p)) i))

      -- and no has one exactly if the place behind the next opening comes in time: this depends on the last yes and on how many openings are decided, and on nothing else
      pub no_there : present (bound_of job p) ≡ true → present (bound_of job (snoc p false)) ≡ reaches job (last_yes p) (suc (length p))
      unfolding all_kept each_reaches
      no_there t = node_there (snoc p false) (within_size false) ∙ go job.parts (sym (node_there p (omega arith)) ∙ t)
        where
          go : (parts : List Part) → all_kept p parts ≡ true → all_kept (snoc p false) parts ≡ each_reaches job (last_yes p) (suc (length p)) parts
          go [] k = refl
          go (part ∷ parts) k =
              let d = (and-eq-true_iff (open_kept p part) (all_kept p parts)).0 (k) in
              (λ i. no_part part d.0 i && go parts d.1 i)
