-- The walk from an incumbent that is known before: it ends with the better of that one and what the walk without it ends with, and with a limit it is the same as long as the limit lets.
-- Laws of the search alone, of trees of any shape.
use Prim.Native.Nat.{ℕ, suc, ◌+◌, ◌≤◌, ◌<◌}
use native.Mathlib.Omega.{arith}
use native.Mathlib.Decide.{dec_le}
use mathlib.Core.Path.{◌≡◌, refl, sym, ap, subst, ◌∙◌}
use mathlib.Core.Bool.{Bool, true, false, cond}
use mathlib.Core.List.{List, [], ◌∷◌, ◌++◌}
use mathlib.Core.Logic.{◌⊎◌, inl, inr, ⊎_elim}
use lib.Dec.{ltb, leb}
use lib.ListN.{length, length-append}
use borrow.Author.Tests.{ltb-true, ltb-false, le-leb, lt-leb, leb-true, leb-false}
use Rattle.branch.specs.declared.Bound.TheVariants.{Missing, Sum}
use Rattle.branch.specs.Search.{Tree, full, ask, cost_at, NoMore, Bounded, Incumbent, none, plan, below, keep, visit, snoc, Walk, alone, through, walk, Limited, counted, with_best, stopped, limited}
use Rattle.branch.proofs.Bounds.{not_both, below_mono}
use Rattle.branch.proofs.Steps.{limited_stop}

-- ---- the better of two incumbents

-- the second only where it is strictly less
abbrev pub better : Incumbent → Incumbent → Incumbent
better b none = b
better b (plan d s) = visit (Sum d) s b

better-none : (x : Incumbent) → better none x ≡ x
better-none none = refl
better-none (plan d s) = refl

better_assoc : (b x y : Incumbent) → better (better b x) y ≡ better b (better x y)
better_assoc b x none = refl
better_assoc b none (plan e t) = refl
better_assoc none (plan d s) (plan e t) = sym (better-none (better (plan d s) (plan e t)))
better_assoc (plan c r) (plan d s) (plan e t) = go (ltb d c) (ltb e d) (ltb e c) refl refl refl
  where
    go : (x y z : Bool) → ltb d c ≡ x → ltb e d ≡ y → ltb e c ≡ z → better (cond x (plan d s) (plan c r)) (plan e t) ≡ better (plan c r) (cond y (plan e t) (plan d s))
    go true true true f g h = rw (g, h)
    go true true false f g h = absurd (omega (arith, ltb-true d c f, ltb-true e d g, ltb-false e c h))
    go true false z f g h = rw (f, g)
    go false true z f g h = refl
    go false false true f g h = absurd (omega (arith, ltb-false d c f, ltb-false e d g, ltb-true e c h))
    go false false false f g h = rw (f, h)

-- ---- the walk without a limit

-- the last incumbent is the first, or a full node at its cost
abbrev From : Tree → Incumbent → Incumbent → Type 0
From t b x = (x ≡ b) ⊎ ((c : ℕ) × (s u : List Bool) × (x ≡ plan c s) × (cost_at t u ≡ Sum c))

from : (t : Tree) (p : List Bool) (b : Incumbent) → From t b (walk t p b).incumbent
unfolding walk
from (full Missing) p b = inl refl
from (full (Sum c)) p b = go (below (Sum c) b)
  where
    go : (a : Bool) → From (full (Sum c)) b (cond a (plan c p) b)
    go true = inr (c, p, [], refl, refl)
    go false = inl refl
from (ask e t) p b = go (below e b) (from (t false) (snoc p false) b) (from (t true) (snoc p true) first.incumbent)
  where
    first : Walk
    first = walk (t false) (snoc p false) b

    second : Walk
    second = walk (t true) (snoc p true) first.incumbent

    go : (a : Bool) → From (t false) b first.incumbent → From (t true) first.incumbent second.incumbent → From (ask e t) b (cond {A = Walk} a (through p first second) (alone p b)).incumbent
    go false x y = inl refl
    go true x y = ⊎_elim
        (λ q. ⊎_elim (λ r. inl (q ∙ r)) (λ r. inr (r.0, r.1, false ∷ r.2, q ∙ r.3, r.4)) x)
        (λ q. inr (q.0, q.1, true ∷ q.2, q.3, q.4)) y

-- a walk from an incumbent ends with the better of that one and what the walk without it ends with
pub walk-better : (t : Tree) (p : List Bool) (b : Incumbent) → Bounded t → (walk t p b).incumbent ≡ better b (walk t p none).incumbent
unfolding walk
walk-better (full Missing) p b h = refl
walk-better (full (Sum c)) p b h = refl
walk-better (ask Missing t) p b h = refl
walk-better (ask (Sum n) t) p b h =
    go (below (Sum n) b) refl (walk-better (t false) (snoc p false) b (h.1 false)) (λ x. walk-better (t true) (snoc p true) x (h.1 true)) (from (ask (Sum n) t) p none)
  where
    first : Incumbent → Walk
    first x = walk (t false) (snoc p false) x

    second : Incumbent → Walk
    second x = walk (t true) (snoc p true) x

    last : Incumbent
    last = (second (first none).incumbent).incumbent

    go : (a : Bool) → below (Sum n) b ≡ a → (first b).incumbent ≡ better b (first none).incumbent → ((x : Incumbent) → (second x).incumbent ≡ better x (second none).incumbent) → From (ask (Sum n) t) none last
        → (cond {A = Walk} a (through p (first b) (second (first b).incumbent)) (alone p b)).incumbent ≡ better b last
    go true f x y z =
        y (first b).incumbent ∙ ap (λ (i : Incumbent). better i (second none).incumbent) x ∙ better_assoc b (first none).incumbent (second none).incumbent
        ∙ ap (better b) (sym (y (first none).incumbent))
    go false f x y z = ⊎_elim (λ q. sym (ap (better b) q)) (λ q. sym (ap (better b) q.3 ∙ worse q.0 q.1 (below (Sum q.0) b) refl (subst (NoMore (Sum n)) q.4 (h.0 q.2)))) z
      where
        worse : (c : ℕ) (s : List Bool) (a : Bool) → below (Sum c) b ≡ a → NoMore (Sum n) (Sum c) → cond a (plan c s) b ≡ b
        worse c s true q l = not_both (below (Sum n) b) (below_mono (Sum n) (Sum c) b l q) f
        worse c s false q l = refl

-- ---- the walk with a limit

module _ (L : ℕ) where
  -- the state after all nodes
  abbrev pub ended : Tree → List Bool → Limited → Limited
  ended t p st = record { count = st.count + length (walk t p st.incumbent).nodes; over = st.over; incumbent = (walk t p st.incumbent).incumbent }

  -- where the limit is not exceeded, the walk with it ends as the one without
  pub limited_fits : (t : Tree) (p : List Bool) (st : Limited) → st.count + length (walk t p st.incumbent).nodes ≤ L → limited L t p st ≡ ended t p st
  unfolding limited walk
  limited_fits (full e) p st h = rw (lt-leb L st.count (omega arith)) (go (below e st.incumbent))
    where
      go : (a : Bool) → cond a (with_best e p (counted st)) (counted st) ≡ record { count = st.count + 1; over = st.over; incumbent = cond a (keep e p st.incumbent) st.incumbent }
      go true = refl
      go false = refl
  limited_fits (ask e t) p st h =
      go (below e st.incumbent) h (limited_fits (t false) (snoc p false) (counted st)) (λ s. limited_fits (t true) (snoc p true) s)
    where
      first : Walk
      first = walk (t false) (snoc p false) st.incumbent

      second : Walk
      second = walk (t true) (snoc p true) first.incumbent

      ends : Bool → Walk
      ends a = cond a (through p first second) (alone p st.incumbent)

      both : Limited
      both = limited L (t true) (snoc p true) (limited L (t false) (snoc p false) (counted st))

      go : (a : Bool) → st.count + length (ends a).nodes ≤ L
          → (st.count + 1 + length first.nodes ≤ L → limited L (t false) (snoc p false) (counted st) ≡ ended (t false) (snoc p false) (counted st))
          → ((s : Limited) → s.count + length (walk (t true) (snoc p true) s.incumbent).nodes ≤ L → limited L (t true) (snoc p true) s ≡ ended (t true) (snoc p true) s)
          → cond (leb L st.count) (stopped st) (cond a both (counted st)) ≡ record { count = st.count + length (ends a).nodes; over = st.over; incumbent = (ends a).incumbent }
      go false l x y = rw (lt-leb L st.count (omega arith))
      go true l x y =
          let n = length-append first.nodes second.nodes in
          let z : st.count + 1 + length first.nodes + length second.nodes ≡ st.count + suc (length (first.nodes ++ second.nodes)) = omega (arith, n) in
          rw (lt-leb L st.count (omega arith))
          (ap (limited L (t true) (snoc p true)) (x (omega (arith, n))) ∙ y (ended (t false) (snoc p false) (counted st)) (omega (arith, n))
          ∙ (λ i. record { count = z i; over = st.over; incumbent = second.incumbent }))

  -- the limit was reached, and there are more nodes
  abbrev pub Cuts : Limited → Type 0
  Cuts s = (s.over ≡ true) × (s.count ≡ L)

  -- where the limit is exceeded, the walk stops at it and says that there are more nodes
  pub limited_cuts : (t : Tree) (p : List Bool) (st : Limited) → st.count ≤ L → L < st.count + length (walk t p st.incumbent).nodes
      → Cuts (limited L t p st)
  unfolding limited walk
  limited_cuts (full e) p st m h = rw (le-leb L st.count (omega arith)) (refl, omega arith)
  limited_cuts (ask e t) p st m h =
      go (leb L st.count) (below e st.incumbent) refl h (limited_cuts (t false) (snoc p false) (counted st)) (λ s. limited_cuts (t true) (snoc p true) s)
      (limited_fits (t false) (snoc p false) (counted st))
    where
      first : Walk
      first = walk (t false) (snoc p false) st.incumbent

      second : Walk
      second = walk (t true) (snoc p true) first.incumbent

      ends : Bool → Walk
      ends a = cond a (through p first second) (alone p st.incumbent)

      one : Limited
      one = limited L (t false) (snoc p false) (counted st)

      two : (st.count + 1 ≤ L) → L < st.count + suc (length (first.nodes ++ second.nodes))
          → (st.count + 1 ≤ L → L < st.count + 1 + length first.nodes → Cuts one)
          → ((s : Limited) → s.count ≤ L → L < s.count + length (walk (t true) (snoc p true) s.incumbent).nodes → Cuts (limited L (t true) (snoc p true) s))
          → (st.count + 1 + length first.nodes ≤ L → one ≡ ended (t false) (snoc p false) (counted st))
          → Dec (st.count + 1 + length first.nodes ≤ L) → Cuts (limited L (t true) (snoc p true) one)
      two l g x y z (yes fits) =
          subst (λ (s : Limited). Cuts (limited L (t true) (snoc p true) s)) (sym (z fits))
          (y (ended (t false) (snoc p false) (counted st)) fits (omega (arith, length-append first.nodes second.nodes)))
      two l g x y z (no cut) =
          let c = x l (omega arith) in
          subst Cuts (sym (limited_stop L (t true) (snoc p true) one (omega (arith, c.1)))) (refl, c.1)

      go : (s a : Bool) → leb L st.count ≡ s → L < st.count + length (ends a).nodes
          → (st.count + 1 ≤ L → L < st.count + 1 + length first.nodes → Cuts one)
          → ((s : Limited) → s.count ≤ L → L < s.count + length (walk (t true) (snoc p true) s.incumbent).nodes → Cuts (limited L (t true) (snoc p true) s))
          → (st.count + 1 + length first.nodes ≤ L → one ≡ ended (t false) (snoc p false) (counted st))
          → Cuts (cond s (stopped st) (cond a (limited L (t true) (snoc p true) one) (counted st)))
      go true a c g x y z = (refl, omega (arith, leb-true L st.count c))
      go false false c g x y z = absurd (omega (arith, leb-false L st.count c))
      go false true c g x y z = two (omega (arith, leb-false L st.count c)) g x y z (dec_le (st.count + 1 + length first.nodes) L)
