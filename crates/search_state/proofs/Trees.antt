-- The walk's state as the search's, and a node that is reached, in any tree, with what `open` says of it.
use Prim.Native.Nat.{ℕ, ◌+◌, ◌<◌, ◌≤◌, min}
use mathlib.Core.Path.{◌≡◌, refl, sym, ap, ◌∙◌}
use mathlib.Core.Bool.{Bool, true, false, cond}
use mathlib.Core.List.{List}
use native.Mathlib.Omega.{arith}
use native.Mathlib.Decide.{dec_lt}
use borrow.Author.Tests.{ltb-false, lt-ltb, le-ltb, leb-true, leb-false}
use lib.Dec.{ltb, leb}
use Rattle.branch.specs.declared.Bound.{Bound}
use Rattle.branch.specs.declared.Bound.TheVariants.{Missing, Sum}
use Rattle.branch.specs.Search.{Tree, none, plan, below, Limited, counted, stopped, limited, onward}
use Rattle.branch.proofs.Bounds.{no_sum_lem, sum_inj}
use Rattle.branch.proofs.Steps.{bound_at, limited_stop, limited_drop, limited_on}
use Rattle.lane_rows.specs.Layout.{inf}
use Rattle.lane_rows.specs.Tables.{sum_where}
use Rattle.lane_rows.proofs.Lanes.{where_some, where_none}
use Rattle.search_state.specs.declared.Search.{Search}
use Rattle.search_state.specs.State.{incumbent_of, view_of, viewed, no_cost, counted_s, reached_s, undropped, open_s}

-- ---- the state

improves_below : (l : List Bool) (e : ℕ) (s : Search) → e < no_cost → viewed e s ≡ below (Sum e) (incumbent_of l s)
improves_below l e s h = go (ltb s.cost no_cost) refl
  where
    go : (t : Bool) → ltb s.cost no_cost ≡ t → ltb e s.cost ≡ below (Sum e) (cond t (plan s.cost l) none)
    go true f = refl
    go false f = lt-ltb e s.cost (omega (arith, ltb-false s.cost no_cost f))

-- a node more within the limit, and one beyond it
counted_view : (L : ℕ) (name : ℕ → List Bool) (s : Search) → s.count < L → view_of L name (counted_s s) ≡ counted (view_of L name s)
counted_view L name s h =
    let z : min (s.count + 1) L ≡ min s.count L + 1 = omega arith in
    let y : ltb L (s.count + 1) ≡ ltb L s.count = le-ltb L (s.count + 1) (omega arith) ∙ sym (le-ltb L s.count (omega arith)) in
    λ i. record { count = z i; over = y i; incumbent = incumbent_of (name s.mask) s }

passed_view : (L : ℕ) (name : ℕ → List Bool) (s : Search) → s.count < L → view_of L name (reached_s L s) ≡ counted (view_of L name s)
passed_view L name s h = ap (λ (b : Bool). view_of L name (cond b s (counted_s s))) (le-ltb L s.count (omega arith)) ∙ counted_view L name s h

stopped_view : (L : ℕ) (name : ℕ → List Bool) (s : Search) → L ≤ s.count → view_of L name (reached_s L s) ≡ stopped (view_of L name s)
stopped_view L name s h = go (ltb L s.count) refl
  where
    go : (b : Bool) → ltb L s.count ≡ b → view_of L name (cond b s (counted_s s)) ≡ stopped (view_of L name s)
    go true f = λ i. record { count = min s.count L; over = f i; incumbent = incumbent_of (name s.mask) s }
    go false f =
        let z : min (s.count + 1) L ≡ min s.count L = omega (arith, ltb-false L s.count f) in
        λ i. record { count = z i; over = lt-ltb L (s.count + 1) (omega arith) i; incumbent = incumbent_of (name s.mask) s }

-- ---- a node's fees, removals and term, with which its part sums e make its bound

-- what is due at a node makes its bound with the part sums, and both fit
pub record DueAt (T : Tree) (e : Bound) (due : ℕ) : Type 0 where
  -- where the part sums are Missing so is the tree's bound
  pub none : e ≡ Missing → bound_at T ≡ Missing
  -- where the part sums are there the tree's bound is what is due and these
  pub some : (x : ℕ) → e ≡ Sum x → bound_at T ≡ Sum (due + x)
  -- what is due and the part sums stay below the cost that stands for no plan
  pub fits : (x : ℕ) → e ≡ Sum x → due + x < no_cost

-- part sums that are there
pub due_there : (T : Tree) (due x : ℕ) → bound_at T ≡ Sum (due + x) → due + x < no_cost → DueAt T (Sum x) due
due_there T due x b l =
    record {
      none = λ f. absurd (no_sum_lem (Sum x) x f refl);
      some = λ y f. b ∙ ap (λ (z : ℕ). Sum (due + z)) (sum_inj (Sum x) x y refl f);
      fits = λ y f. omega (arith, l, sum_inj (Sum x) x y refl f);
    }

-- the sums are there only where the term is
pub where_there : (g y x : ℕ) → sum_where g y ≡ Sum x → (g < inf) × (y ≡ x)
where_there g y x f = go (dec_lt g inf)
  where
    go : Dec (g < inf) → (g < inf) × (y ≡ x)
    go (yes h) = (h, sum_inj (sum_where g y) y x (where_some g y h) f)
    go (no h) = absurd (no_sum_lem (sum_where g y) x (where_none g y (omega (arith, h))) f)

-- part sums that are there where the term is
pub due_where : (T : Tree) (due g y : ℕ) → (inf ≤ g → bound_at T ≡ Missing) → (g < inf → bound_at T ≡ Sum (due + y)) → (g < inf → due + y < no_cost) → DueAt T (sum_where g y) due
due_where T due g y n s l =
    record {
      none = λ f. absent f (dec_lt g inf);
      some = λ x f. let h = where_there g y x f in s h.0 ∙ ap (λ (z : ℕ). Sum (due + z)) h.1;
      fits = λ x f. let h = where_there g y x f in omega (arith, l h.0, h.1);
    }
  where
    over : (g < inf → ⊥) → inf ≤ g
    over h = omega (arith, h)

    absent : sum_where g y ≡ Missing → Dec (g < inf) → bound_at T ≡ Missing
    absent f (yes h) = absurd (no_sum_lem (sum_where g y) y f (where_some g y h))
    absent f (no h) = n (over h)

module _ {T : Tree} {e : Bound} {due : ℕ} (d : DueAt T e due) (name : List Bool) (L : ℕ) (best : ℕ → List Bool) (s : Search) where
  -- the search's state once it has walked the node and all below it
  abbrev pub reaching : Limited
  reaching = limited L T name (view_of L best s)

  -- the code's test is the search's
  tested : (x : ℕ) → e ≡ Sum x → below (bound_at T) (incumbent_of (best s.mask) s) ≡ viewed (due + x) s
  tested x f = ap (λ (b : Bound). below b (incumbent_of (best s.mask) s)) (d.some x f) ∙ sym (improves_below (best s.mask) (due + x) s (d.fits x f))

  -- it is not walked on
  pub closed : open_s L due e s ≡ Missing → view_of L best (reached_s L s) ≡ reaching
  closed f = go (leb L s.count) refl f
    where
      drop : (e' : Bound) → e ≡ e' → undropped due e' s ≡ Missing → below (bound_at T) (incumbent_of (best s.mask) s) ≡ false
      drop Missing g h = ap (λ (b : Bound). below b (incumbent_of (best s.mask) s)) (d.none g)
      drop (Sum x) g h = tested x g ∙ no (viewed (due + x) s) h
        where
          no : (b : Bool) → cond b (Sum x) Missing ≡ Missing → b ≡ false
          no true u = absurd (no_sum_lem (Sum x) x u refl)
          no false u = refl

      go : (b : Bool) → leb L s.count ≡ b → cond b Missing (undropped due e s) ≡ Missing → view_of L best (reached_s L s) ≡ reaching
      go true h u = let l = leb-true L s.count h in stopped_view L best s l ∙ sym (limited_stop L T name (view_of L best s) (omega (arith, l)))
      go false h u = let l = leb-false L s.count h in passed_view L best s l ∙ sym (limited_drop L T name (view_of L best s) (omega (arith, l)) (drop e refl u))

  -- it is walked on, with the part sums y
  pub record Opened (y : ℕ) : Type 0 where
    -- the part sums of a node that is walked on are there, and are y
    pub sums : e ≡ Sum y
    -- a node is walked on only where fewer nodes than the limit are counted
    pub within : s.count < L
    -- the walk on from the node, once it is counted, ends as the search of it does
    pub on : onward L T name (view_of L best (counted_s s)) ≡ reaching

  pub opened : (y : ℕ) → open_s L due e s ≡ Sum y → Opened y
  opened y f = go (leb L s.count) refl f
    where
      kept_on : (e' : Bound) → e ≡ e' → undropped due e' s ≡ Sum y → (e ≡ Sum y) × (below (bound_at T) (incumbent_of (best s.mask) s) ≡ true)
      kept_on Missing g h = absurd (no_sum_lem Missing y refl h)
      kept_on (Sum x) g h = let r = is (viewed (due + x) s) h in (g ∙ r.0, tested x g ∙ r.1)
        where
          is : (b : Bool) → cond b (Sum x) Missing ≡ Sum y → (Sum x ≡ Sum y) × (b ≡ true)
          is true u = (u, refl)
          is false u = absurd (no_sum_lem Missing y refl u)

      go : (b : Bool) → leb L s.count ≡ b → cond b Missing (undropped due e s) ≡ Sum y → Opened y
      go true h u = absurd (no_sum_lem Missing y refl u)
      go false h u =
          let r = kept_on e refl u in
          let l = leb-false L s.count h in
          record {
            sums = r.0;
            within = l;
            on = ap (onward L T name) (counted_view L best s l) ∙ sym (limited_on L T name (view_of L best s) (omega (arith, l)) r.1);
          }
