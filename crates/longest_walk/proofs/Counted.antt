-- E6.1, E6.5, E6.6. The count worked out without walking is the count that is asked for, up to the cap; and what that count says of walks and of plans.
use mathlib.Core.Path.{◌≡◌, refl, sym, ap, subst, ◌∙◌}
use mathlib.Core.Bool.{Bool, true, false, cond}
use mathlib.Core.List.{List, []}
use mathlib.Core.Logic.{◌↔◌, ◌⊎◌, inl, inr, ⊎_elim}
use Prim.Native.Nat.{ℕ, zero, suc, ◌+◌, ◌-◌, ◌≤◌, ◌<◌, min}
use native.Mathlib.Omega.{arith}
use lib.ListN.{length, length-append}
use Rattle.branch.specs.declared.Bound.{Bound}
use Rattle.branch.specs.declared.Bound.TheVariants.{Missing, Sum}
use Rattle.branch.specs.Search.{Incumbent, none, plan, snoc, at_most}
use Rattle.branch.specs.Label.{tree_of}
use Rattle.branch.specs.Open.{present, open_nodes}
use Rattle.branch.proofs.Limit.{cut as limits}
use Rattle.branch.proofs.Open.{open-missing, open-both, open-1, walk_most}
use Rattle.model.specs.Model.{Job, NoHolders, HasPlan}
use Rattle.model.specs.LowerBound.{bound_of}
use Rattle.model.specs.LastYes.{last_yes}
use Rattle.model.specs.Promise.{nodes_of, searched, whole_count, answered_at, answer_of}
use Rattle.model.specs.Ordered.{Ordered}
use Rattle.longest_walk.specs.Longest.{longest, capped, JobCountPromise}
use Rattle.longest_walk.specs.Count.{reaches, each_kept, count_from, entry, open_count}
use Rattle.model.proofs.Roots.{rooted, has_plan}
use Rattle.model.proofs.Promised.{promise}
use Rattle.model.proofs.LastYes.{last_no, last_yes_lem}
use Rattle.model.proofs.NoHolders.{plain_tree_lem}
use Rattle.longest_walk.proofs.Missing.{root_there, yes_there, no_there}

module _ (job : Job) where
  -- the nodes from the node p on, where k openings are left
  abbrev pub open_at : ℕ → List Bool → ℕ
  open_at k p = open_nodes (tree_of (bound_of job) k p)

  snoc_size : (p : List Bool) (x : Bool) → length (snoc p x) ≡ suc (length p)
  snoc_size p x = simp length-append (omega arith)

  dropped : (k : ℕ) (p : List Bool) → present (bound_of job p) ≡ false → open_at k p ≡ 1
  unfolding tree_of
  dropped zero p h = open-missing (tree_of (bound_of job) zero p) h
  dropped (suc k) p h = open-missing (tree_of (bound_of job) (suc k) p) h

  module _ (none_held : NoHolders job.parts) where
    -- the tree is that of W4
    longest_is : longest job ≡ open_at (length job.openings) []
    longest_is = ap open_nodes (plain_tree_lem job none_held)

    -- ---- plans

    -- the longest walk has one node exactly if the job has no plan or no openings
    pub longest_1 : (longest job ≡ 1) ↔ ((HasPlan job → ⊥) ⊎ (length job.openings ≡ 0))
    longest_1 = (
      (λ h. to (length job.openings) refl (sym longest_is ∙ h)),
      λ h. longest_is ∙ ⊎_elim (λ g. dropped (length job.openings) [] (lost (bound_of job []) refl g)) no_openings h,
    )
      where
        no_openings : length job.openings ≡ 0 → open_at (length job.openings) [] ≡ 1
        no_openings h = ap (λ (k : ℕ). open_at k []) h ∙ (unfold tree_of open_nodes in refl)

        lost : (x : Bound) → bound_of job [] ≡ x → (HasPlan job → ⊥) → present x ≡ false
        lost Missing e h = refl
        lost (Sum f) e h = absurd (h (rooted job f e))

        to : (k : ℕ) → length job.openings ≡ k → open_at k [] ≡ 1 → (HasPlan job → ⊥) ⊎ (k ≡ 0)
        to zero e h = inr refl
        to (suc k) e h = inl (λ w. (has_plan job).0 w ((open-1 (bound_of job []) (λ x. tree_of (bound_of job) k (snoc [] x))).0 (unfold tree_of in h)))

  module _ (o : Ordered job) (none_held : NoHolders job.parts) where
    from_is : (k : ℕ) (p : List Bool) → length p + k ≡ length job.openings → present (bound_of job p) ≡ true → count_from (reaches job) k (length p) (last_yes p) ≡ capped (open_at k p)
    unfolding count_from tree_of
    from_is zero p h t = unfold open_nodes in refl
    from_is (suc k) p h t = go (reaches job (last_yes p) (suc (length p))) (no_there job o none_held p l t)
        (subst (λ (j : ℕ). count_from (reaches job) k j j ≡ capped (open_at k (snoc p true))) (snoc_size p true)
        (subst (λ (m : ℕ). count_from (reaches job) k (length (snoc p true)) m ≡ capped (open_at k (snoc p true))) (last_yes_lem p ∙ sym (snoc_size p true))
        (from_is k (snoc p true) (omega (arith, snoc_size p true)) (yes_there job o none_held p l ∙ t))))
        (λ q. subst (λ (j : ℕ). count_from (reaches job) k j (last_yes p) ≡ capped (open_at k (snoc p false))) (snoc_size p false)
        (subst (λ (m : ℕ). count_from (reaches job) k (length (snoc p false)) m ≡ capped (open_at k (snoc p false))) (last_no p)
        (from_is k (snoc p false) (omega (arith, snoc_size p false)) q)))
      where
        l : length p < length job.openings
        l = omega arith

        both : open_at (suc k) p ≡ 1 + open_at k (snoc p false) + open_at k (snoc p true)
        both = unfold tree_of in open-both (bound_of job p) (λ x. tree_of (bound_of job) k (snoc p x)) t

        go : (r : Bool) → present (bound_of job (snoc p false)) ≡ r → count_from (reaches job) k (suc (length p)) (suc (length p)) ≡ capped (open_at k (snoc p true))
            → (present (bound_of job (snoc p false)) ≡ true → count_from (reaches job) k (suc (length p)) (last_yes p) ≡ capped (open_at k (snoc p false)))
            → capped (1 + cond r (count_from (reaches job) k (suc (length p)) (last_yes p)) 1 + count_from (reaches job) k (suc (length p)) (suc (length p))) ≡ capped (open_at (suc k) p)
        go true q y n = omega (arith, both, y, n q)
        go false q y n = omega (arith, both, y, dropped k (snoc p false) q)

    -- what the entry (j, m) means: the number of nodes, up to the cap, from any node on that has a bound, where j openings are decided and m is the last yes
    pub entry_is : (p : List Bool) → length p ≤ length job.openings → present (bound_of job p) ≡ true → entry job (length p) (last_yes p) ≡ capped (open_at (length job.openings - length p) p)
    entry_is p l t = from_is (length job.openings - length p) p (omega arith) t

    -- so the call's number is the count that is asked for, up to the cap
    pub counted : open_count job ≡ capped (longest job)
    unfolding open_count last_yes
    counted = go (each_kept job job.parts) (root_there job o none_held) ∙ ap capped (sym (longest_is none_held))
      where
        go : (r : Bool) → present (bound_of job []) ≡ r → cond r (entry job 0 0) 1 ≡ capped (open_at (length job.openings) [])
        go true h = let z : length job.openings - 0 ≡ length job.openings = omega arith in entry_is [] (omega arith) h ∙ ap (λ (k : ℕ). capped (open_at k [])) z
        go false h = omega (arith, dropped (length job.openings) [] h)

  -- ---- walks, whole or cut

  -- the whole walk has no more nodes than a walk that drops only missing bounds
  pub whole_most : whole_count job ≤ longest job
  whole_most = walk_most (searched job) [] none

  answer_most : (limit : ℕ) → nodes_of (answer_of job limit) ≤ (at_most limit (searched job)).count
  unfolding answer_of
  answer_most limit = go (bound_of job []) (at_most limit (searched job)).over (at_most limit (searched job)).incumbent
    where
      n : ℕ
      n = (at_most limit (searched job)).count

      go : (x : Bound) (v : Bool) (b : Incumbent) → nodes_of (answered_at job x (record { count = n; over = v; incumbent = b })) ≤ n
      go Missing v b = omega arith
      go (Sum f) true none = omega arith
      go (Sum f) true (plan c s) = omega arith
      go (Sum f) false none = omega arith
      go (Sum f) false (plan c s) = omega arith

  -- an answer's `nodes` is at most the walk number and at most the longest walk's count
  pub nodes_most : (limit : ℕ) → nodes_of (answer_of job limit) ≤ min limit (longest job)
  nodes_most limit = omega (arith, answer_most limit, (limits (searched job) limit).count, whole_most)

  -- ---- the promise

  module _ (o : Ordered job) (none_held : NoHolders job.parts) where
    -- the count worked out without walking keeps all that is promised of the count
    pub count_promise : JobCountPromise job (open_count job)
    count_promise = record {
      counts = counted o none_held;
      most = λ l. omega (arith, counted o none_held, whole_most);
      nodes = λ limit l. omega (arith, counted o none_held, nodes_most limit);
      enough = λ limit l m e. omega (arith, counted o none_held, whole_most, ((promise job limit).says_7.0 e).1);
      one = ((λ e. (longest_1 none_held).0 (omega (arith, counted o none_held))), λ h. omega (arith, counted o none_held, (longest_1 none_held).1 h));
    }
