-- E6.5. "No walk ever has more points than this count": whatever the incumbent, with a limit or without, a walk that drops more has no more nodes. By recursion over the tree.
use Prim.Native.Nat.{ℕ, ◌+◌, ◌≤◌}
use native.Mathlib.Omega.{arith}
use mathlib.Core.Path.{◌≡◌, refl}
use mathlib.Core.Bool.{Bool, true, false, cond, true≢false}
use mathlib.Core.List.{List}
use mathlib.Core.Logic.{◌↔◌}
use lib.ListN.{length, length-append}
use lib.Dec.{leb}
use Rattle.branch.specs.declared.Bound.{Bound}
use Rattle.branch.specs.declared.Bound.TheVariants.{Missing, Sum}
use Rattle.branch.specs.Search.{Tree, full, ask, Incumbent, below, snoc, Walk, alone, through, walk, Limited, counted, with_best, stopped, limited}
use Rattle.branch.specs.Open.{present, open_nodes}
use Rattle.branch.proofs.Bounds.{no_sum_lem}
use Rattle.branch.proofs.Steps.{bound_at}

-- ---- the count itself

-- each tree has a first node
pub open-one : (t : Tree) → 1 ≤ open_nodes t
unfolding open_nodes
open-one (full e) = omega arith
open-one (ask e t) = go (present e)
  where
    go : (a : Bool) → 1 ≤ cond a (1 + open_nodes (t false) + open_nodes (t true)) 1
    go true = omega arith
    go false = omega arith

-- a node whose bound is missing is dropped
pub open-missing : (t : Tree) → present (bound_at t) ≡ false → open_nodes t ≡ 1
unfolding open_nodes
open-missing (full e) h = refl
open-missing (ask e t) h = rw h

-- from any other both nodes below are walked
pub open-both : (e : Bound) (t : Bool → Tree) → present e ≡ true → open_nodes (ask e t) ≡ 1 + open_nodes (t false) + open_nodes (t true)
unfolding open_nodes
open-both e t h = rw h

-- a bound is not present exactly if it is missing
pub missing_not : (x : Bound) → (present x ≡ false) ↔ (x ≡ Missing)
missing_not Missing = ((λ h. refl), λ h. refl)
missing_not (Sum n) = ((λ h. absurd (true≢false h)), λ h. absurd (no_sum_lem (Sum n) n h refl))

-- the count of a tree that asks is 1 exactly if the root's bound is missing; a full node counts 1 whatever its bound
pub open-1 : (e : Bound) (t : Bool → Tree) → (open_nodes (ask e t) ≡ 1) ↔ (e ≡ Missing)
open-1 e t = (to (present e) refl, λ m. open-missing (ask e t) ((missing_not e).1 m))
  where
    to : (a : Bool) → present e ≡ a → open_nodes (ask e t) ≡ 1 → e ≡ Missing
    to true h c = absurd (omega (arith, open-both e t h, open-one (t false), open-one (t true)))
    to false h c = (missing_not e).0 h

-- ---- against the walks

-- what is not dropped has a bound
pub below_there : (x : Bound) (b : Incumbent) → below x b ≡ true → present x ≡ true
below_there Missing b h = h
below_there (Sum n) b h = refl

-- the whole walk, from whatever incumbent
pub walk_most : (t : Tree) (p : List Bool) (b : Incumbent) → length (walk t p b).nodes ≤ open_nodes t
unfolding walk
walk_most (full e) p b = open-one (full e)
walk_most (ask e t) p b = go (below e b) refl (walk_most (t false) (snoc p false) b) (walk_most (t true) (snoc p true) first.incumbent)
  where
    first : Walk
    first = walk (t false) (snoc p false) b

    second : Walk
    second = walk (t true) (snoc p true) first.incumbent

    go : (a : Bool) → below e b ≡ a → length first.nodes ≤ open_nodes (t false) → length second.nodes ≤ open_nodes (t true)
        → length (cond {A = Walk} a (through p first second) (alone p b)).nodes ≤ open_nodes (ask e t)
    go true h x y = omega (arith, open-both e t (below_there e b h), length-append first.nodes second.nodes)
    go false h x y = open-one (ask e t)

-- the walk with a limit, from whatever state
pub limited_most : (L : ℕ) (t : Tree) (p : List Bool) (st : Limited) → (limited L t p st).count ≤ st.count + open_nodes t
unfolding limited
limited_most L (full e) p st = go (leb L st.count) (below e st.incumbent)
  where
    go : (s a : Bool) → (cond {A = Limited} s (stopped st) (cond {A = Limited} a (with_best e p (counted st)) (counted st))).count ≤ st.count + open_nodes (full e)
    go true a = omega arith
    go false true = omega (arith, open-one (full e))
    go false false = omega (arith, open-one (full e))
limited_most L (ask e t) p st = go (leb L st.count) (below e st.incumbent) refl (limited_most L (t false) (snoc p false) (counted st)) (limited_most L (t true) (snoc p true) X)
  where
    X : Limited
    X = limited L (t false) (snoc p false) (counted st)

    Y : Limited
    Y = limited L (t true) (snoc p true) X

    go : (s a : Bool) → below e st.incumbent ≡ a → X.count ≤ st.count + 1 + open_nodes (t false) → Y.count ≤ X.count + open_nodes (t true)
        → (cond {A = Limited} s (stopped st) (cond {A = Limited} a Y (counted st))).count ≤ st.count + open_nodes (ask e t)
    go true a h x y = omega arith
    go false true h x y = omega (arith, open-both e t (below_there e st.incumbent h))
    go false false h x y = omega (arith, open-one (ask e t))
