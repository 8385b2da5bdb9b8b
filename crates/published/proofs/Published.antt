-- The plans that keep the lives are those that meet the published constraints, and their cost is the published objective. Windows part by part; sums over steps and over openings agree by recursion over the openings, which rise.
use mathlib.Core.Path.{◌≡◌, refl, sym, ap, ap₂, subst, ◌∙◌}
use mathlib.Core.Bool.{Bool, true, false, cond, ◌&&◌, false≢true, and-eq-true_iff}
use mathlib.Core.List.{List, [], ◌∷◌, map}
use mathlib.Core.Logic.{inl, inr, ⊎_elim, ◌↔◌}
use Prim.Native.Nat.{ℕ, zero, suc, ◌+◌, ◌*◌, ◌≤◌, ◌<◌}
use native.Mathlib.Omega.{arith}
use lib.Dec.{eqb, ltb, leb}
use lib.ListN.{length, length-map, get_or-map, get_or, drop}
use borrow.Author.Tests.{eqb-true, eq-eqb, ne_eqb, ltb-true, lt-ltb, leb-true, le-leb}
use Rattle.model.specs.Model.{Opening, Part, Job, Plan, running, fee_of, prices_of_lem, removal_of_lem, out_at, sum, removals_of_lem, cost_of_lem, table, select, sum_at, KeepsLives}
use Rattle.model.specs.Windows.{Rising, steps_of, at_step, In, Changed, Windows, Served, RunningWindows}
use Rattle.model.specs.Verdict.{no_part, part_at, changes_at, KeptAt}
use Rattle.published.specs.Published.{binary, occasion_cost, purchase_cost, dismounting_cost, z, x, y, objective, Variables, AtStops, Published, running_sum, PublishedRunning, ProperJob, Tied}
use Rattle.base.proofs.Bools.{after_one, inside}
use Rattle.model.proofs.Positions.{rising_above, rising_within}
use Rattle.model.proofs.Offers.{sum_none as sum_none_at}
use Rattle.model.proofs.Sums.{sum_term, term_sum, sum_none, sum_same, sum_both, sum_shift, sum_swap, sum_one}
use Rattle.model.proofs.Totals.{sum_at_lem}
use Rattle.model.proofs.Lists.{table-length, table_at}
use Rattle.model.proofs.Outs.{outs_length}
use Rattle.model.proofs.Windows.{part_windows, no_idles_lem}
use Rattle.model.proofs.Verdicts.{lives_kept, lives_shaped, kept_lives}

-- ---- what stands at a step

module _ {A : Type 0} (d : A) (T : ℕ) where
  -- nothing before the first step
  at_none : (ss : List ℕ) (from : ℕ) (l : List A) (t : ℕ) → Rising from T ss → t ≤ from → at_step d ss l t ≡ d
  unfolding at_step
  at_none [] from l t r h = refl
  at_none (s ∷ ss) from l t r h = rw (ne_eqb s t (λ e. omega (arith, e, r.0))) (at_none ss s (drop 1 l) t r.2 (omega (arith, r.0)))

  -- at the step in place k, what the list has there
  at_place : (ss : List ℕ) (from : ℕ) (l : List A) (k : ℕ) → Rising from T ss → k < length ss → at_step d ss l (get_or ss k 0) ≡ get_or l k d
  unfolding at_step
  at_place [] from l k r h = absurd (omega arith)
  at_place (s ∷ ss) from l zero r h = rw (eq-eqb s s refl)
  at_place (s ∷ ss) from l (suc k) r h =
      rw (ne_eqb s (get_or ss k 0) (λ e. omega (arith, e, rising_above T s ss r.2 k (omega arith))))
      (at_place ss s (drop 1 l) k r.2 (omega arith) ∙ after_one l k d)

-- the steps with a yes are those of the set
at_empty : (ss : List ℕ) (t : ℕ) → at_step false ss [] t ≡ false
unfolding at_step
at_empty [] t = refl
at_empty (s ∷ ss) t = go (eqb s t) (at_empty ss t)
  where
    go : (b : Bool) → at_step false ss [] t ≡ false → cond b false (at_step false ss [] t) ≡ false
    go true r = refl
    go false r = r

yes_in : (ss : List ℕ) (cs : List Bool) (t : ℕ) → at_step false ss cs t ≡ true → In t (select ss cs)
unfolding at_step select
yes_in [] cs t e = false≢true e
yes_in (s ∷ ss) [] t e = false≢true (sym (at_empty (s ∷ ss) t) ∙ e)
yes_in (s ∷ ss) (c ∷ cs) t e = go (eqb s t) refl c e (yes_in ss cs t)
  where
    go : (b : Bool) → eqb s t ≡ b → (c : Bool) → cond b c (at_step false ss cs t) ≡ true → (at_step false ss cs t ≡ true → In t (select ss cs)) → In t (select (s ∷ ss) (c ∷ cs))
    go true q true e r = inl (sym (eqb-true s t q))
    go true q false e r = absurd (false≢true e)
    go false q true e r = inr (r e)
    go false q false e r = r e

in_yes : (T : ℕ) (ss : List ℕ) (from : ℕ) (cs : List Bool) (t : ℕ) → Rising from T ss → In t (select ss cs) → (from < t) × (t ≤ T) × (at_step false ss cs t ≡ true)
unfolding at_step select
in_yes T [] from cs t r i = absurd i
in_yes T (s ∷ ss) from [] t r i = absurd i
in_yes T (s ∷ ss) from (c ∷ cs) t r i = go c i (in_yes T ss s cs t r.2)
  where
    past : (c : Bool) → (s < t) × (t ≤ T) × (at_step false ss cs t ≡ true) → (from < t) × (t ≤ T) × (cond (eqb s t) c (at_step false ss cs t) ≡ true)
    past c q = (omega (arith, q.0, r.0), q.1, rw (ne_eqb s t (λ e. omega (arith, e, q.0))) q.2)

    go : (c : Bool) → In t (select (s ∷ ss) (c ∷ cs)) → (In t (select ss cs) → (s < t) × (t ≤ T) × (at_step false ss cs t ≡ true)) → (from < t) × (t ≤ T) × (cond (eqb s t) c (at_step false ss cs t) ≡ true)
    go false i q = past false (q i)
    go true i q = ⊎_elim (λ e. (omega (arith, e, r.0), omega (arith, e, r.1), rw (eq-eqb s t (sym e)))) (λ j. past true (q j)) i

-- ---- so the sum of x over a window is at least 1 exactly if the part is changed in it

binary_yes : (b : Bool) → 1 ≤ binary b → b ≡ true
binary_yes true h = refl
binary_yes false h = absurd (omega arith)

yes_binary : (b : Bool) → b ≡ true → 1 ≤ binary b
yes_binary b e = rw e (omega arith)

both_yes : (a b : Bool) → 1 ≤ binary a * binary b → (a ≡ true) × (b ≡ true)
both_yes true b h = (refl, binary_yes b (omega arith))
both_yes false true h = absurd (omega arith)
both_yes false false h = absurd (omega arith)

yes_both : (a b : Bool) → a ≡ true → b ≡ true → 1 ≤ binary a * binary b
yes_both a b e f = rw (e, f) (omega arith)

module _ (T : ℕ) (ss : List ℕ) (rising : Rising 0 T ss) (cs : List Bool) where
  abbrev changed : ℕ → Bool
  changed t = at_step false ss cs t

  window_is : (a n b : ℕ) → a + n ≡ b + 1 → (1 ≤ sum a n (λ t. binary (changed t))) ↔ Changed (select ss cs) a b
  window_is a n b e = (
    (λ h. let q = sum_term n a (λ t. binary (changed t)) h in (q.0, yes_in ss cs q.0 (binary_yes (changed q.0) q.3), q.1, omega (arith, q.2))),
    (λ c. term_sum n a (λ t. binary (changed t)) c.0 c.2 (omega (arith, c.3)) (yes_binary (changed c.0) (in_yes T ss 0 cs c.0 rising c.1).2)),
  )

  served_is : (is : List ℕ) (k b : ℕ) → (1 ≤ sum 1 T (λ t. binary (ltb k t && leb (running is t) b) * binary (changed t))) ↔ Served is (select ss cs) k b
  served_is is k b = (
    (λ h.
        let q = sum_term T 1 f h in
        let p = both_yes (ltb k q.0 && leb (running is q.0) b) (changed q.0) q.3 in
        let w = (and-eq-true_iff (ltb k q.0) (leb (running is q.0) b)).0 p.0 in
        (q.0, yes_in ss cs q.0 p.1, ltb-true k q.0 w.0, leb-true (running is q.0) b w.1)),
    (λ c.
        let i = in_yes T ss 0 cs c.0 rising c.1 in
        let w = (and-eq-true_iff (ltb k c.0) (leb (running is c.0) b)).1 (lt-ltb k c.0 c.2, le-leb (running is c.0) b c.3) in
        term_sum T 1 f c.0 (omega (arith, i.0)) (omega (arith, i.1)) (yes_both (ltb k c.0 && leb (running is c.0) b) (changed c.0) w i.2)),
  )
    where
      f : ℕ → ℕ
      f t = binary (ltb k t && leb (running is t) b) * binary (changed t)

-- ---- x ≤ z

binary_most : (a b : Bool) → (a ≡ true → b ≡ true) → binary a ≤ binary b
binary_most true b h = rw (h refl) (omega arith)
binary_most false b h = omega arith

stops_most : (ss : List ℕ) (cs zs : List Bool) → ((k : ℕ) → get_or cs k false ≡ true → get_or zs k false ≡ true) → (t : ℕ) → binary (at_step false ss cs t) ≤ binary (at_step false ss zs t)
unfolding at_step
stops_most [] cs zs h t = omega arith
stops_most (s ∷ ss) cs zs h t = go (eqb s t) (stops_most ss (drop 1 cs) (drop 1 zs) (λ k e. after_one zs k false ∙ h (suc k) (sym (after_one cs k false) ∙ e)) t)
  where
    go : (b : Bool) → binary (at_step false ss (drop 1 cs) t) ≤ binary (at_step false ss (drop 1 zs) t)
        → binary (cond b (get_or cs 0 false) (at_step false ss (drop 1 cs) t)) ≤ binary (cond b (get_or zs 0 false) (at_step false ss (drop 1 zs) t))
    go true r = binary_most (get_or cs 0 false) (get_or zs 0 false) (h 0)
    go false r = r

most_stops : (T : ℕ) (ss : List ℕ) (cs zs : List Bool) → Rising 0 T ss → length cs ≡ length ss → ((t : ℕ) → 1 ≤ t → t ≤ T → binary (at_step false ss cs t) ≤ binary (at_step false ss zs t))
    → (k : ℕ) → get_or cs k false ≡ true → get_or zs k false ≡ true
most_stops T ss cs zs r size h k e =
    let l : k < length ss = omega (arith, inside cs k e) in
    let t = get_or ss k 0 in
    let y = yes_binary (at_step false ss cs t) (at_place false T ss 0 cs k r l ∙ e) in
    let m = h t (omega (arith, rising_above T 0 ss r k l)) (rising_within T 0 ss r k l) in
    sym (at_place false T ss 0 zs k r l) ∙ binary_yes (at_step false ss zs t) (omega (arith, y, m))

-- ---- the objective

-- the sum over all steps of what stands at the set's
term_split : (q : Bool) (n a : ℕ) (c b : Bool) → (q ≡ true → a ≡ 0) → cond q n a * binary (cond q c b) ≡ cond q (n * binary c) 0 + a * binary b
term_split true n a c true h = omega (arith, h refl)
term_split true n a c false h = omega arith
term_split false n a c true h = omega arith
term_split false n a c false h = omega arith

sum_first : (n : ℕ) (ns : List ℕ) (cs : List Bool) → n * binary (get_or cs 0 false) + sum_at ns (drop 1 cs) ≡ sum_at (n ∷ ns) cs
unfolding sum_at
sum_first n ns [] = omega arith
sum_first n ns (true ∷ cs) = omega arith
sum_first n ns (false ∷ cs) = omega arith

module _ (T : ℕ) where
  abbrev term : List ℕ → List ℕ → List Bool → ℕ → ℕ
  term ss ns cs t = at_step 0 ss ns t * binary (at_step false ss cs t)

  sum_steps : (ss : List ℕ) (from : ℕ) (ns : List ℕ) (cs : List Bool) → Rising from T ss → length ns ≡ length ss → sum 1 T (term ss ns cs) ≡ sum_at ns cs
  unfolding at_step
  sum_steps [] from [] cs r e = sum_none T 1 ∙ sym (sum_none_at cs)
  sum_steps [] from (n ∷ ns) cs r e = absurd (omega arith)
  sum_steps (s ∷ ss) from [] cs r e = absurd (omega arith)
  sum_steps (s ∷ ss) from (n ∷ ns) cs r e =
      sum_same T 1 (term (s ∷ ss) (n ∷ ns) cs) (λ t. first t + term ss ns (drop 1 cs) t) (λ t _ _. term_split (eqb s t) n (at_step 0 ss ns t) (get_or cs 0 false) (at_step false ss (drop 1 cs) t) (λ q. at_none 0 T ss s ns t r.2 (omega (arith, eqb-true s t q))))
      ∙ sum_both T 1 first (term ss ns (drop 1 cs))
      ∙ ap₂ (λ (a b : ℕ). a + b) (sum_one s (n * binary (get_or cs 0 false)) T 1 (omega (arith, r.0)) (omega (arith, r.1))) (sum_steps ss s ns (drop 1 cs) r.2 (omega arith))
      ∙ sum_first n ns cs
    where
      first : ℕ → ℕ
      first t = cond (eqb s t) (n * binary (get_or cs 0 false)) 0

-- and over the parts
prices-sum : (ps : List Part) (cs : List (List Bool)) → prices_of_lem ps cs ≡ sum 0 (length ps) (λ i. sum_at (get_or ps i no_part).prices (get_or cs i []))
unfolding sum sum_at
prices-sum [] cs = refl
prices-sum (p ∷ ps) [] = sym (sum_none (length (p ∷ ps)) 0)
prices-sum (p ∷ ps) (c ∷ cs) = ap (λ (k : ℕ). sum_at p.prices c + k) (prices-sum ps cs ∙ sym (sum_shift (length ps) 0 (λ i. sum_at (get_or (p ∷ ps) i no_part).prices (get_or (c ∷ cs) i []))))

-- ---- a job

module _ (job : Job) (proper : ProperJob job) (plan : Plan) where
  abbrev T : ℕ
  T = job.horizon

  abbrev is : List ℕ
  is = job.idles

  abbrev steps : List ℕ
  steps = steps_of job.openings

  abbrev parts : ℕ
  parts = length job.parts

  opening_count_lem2 : length steps ≡ length job.openings
  opening_count_lem2 = length-map job.openings (λ (o : Opening). o.step)

  cost_is : cost_of_lem job plan ≡ objective job plan
  unfolding objective
  cost_is = omega (arith, sum_both T 1 (λ t. sum 0 parts (λ i. purchase i t + dismounting i t)) occasion, changes_sum, purchases, dismountings, occasions)
    where
      openings : ℕ
      openings = length job.openings

      purchase : ℕ → ℕ → ℕ
      purchase i t = purchase_cost job i t * x job plan i t

      dismounting : ℕ → ℕ → ℕ
      dismounting i t = dismounting_cost job i t * y job plan i t

      out : ℕ → List Bool
      out k = out_at job plan.changes k

      removed : ℕ → ℕ → ℕ
      removed i k = cond (get_or (out k) i false) (part_at job i).removal 0

      occasion : ℕ → ℕ
      occasion t = occasion_cost job t * z job plan t

      occasions : sum 1 T occasion ≡ sum_at (map fee_of job.openings) plan.stops
      occasions = sum_steps T steps 0 (map fee_of job.openings) plan.stops proper.openings (length-map job.openings fee_of ∙ sym opening_count_lem2)

      changes_sum : sum 1 T (λ t. sum 0 parts (λ i. purchase i t + dismounting i t)) ≡ sum 0 parts (λ i. sum 1 T (purchase i)) + sum 0 parts (λ i. sum 1 T (dismounting i))
      changes_sum = sum_swap parts 0 T 1 (λ i t. purchase i t + dismounting i t)
          ∙ sum_same parts 0 (λ i. sum 1 T (λ t. purchase i t + dismounting i t)) (λ i. sum 1 T (purchase i) + sum 1 T (dismounting i)) (λ i _ _. sum_both T 1 (purchase i) (dismounting i))
          ∙ sum_both parts 0 (λ i. sum 1 T (purchase i)) (λ i. sum 1 T (dismounting i))

      -- one part's removals, over the steps and over the openings
      part_removed : (i : ℕ) → sum 1 T (dismounting i) ≡ sum 0 openings (removed i)
      part_removed i =
          sum_steps T steps 0 (table (λ _. (part_at job i).removal) openings) (table (λ k. get_or (out k) i false) openings) proper.openings (table-length (λ _. (part_at job i).removal) openings ∙ sym opening_count_lem2)
          ∙ sum_at_lem (table (λ _. (part_at job i).removal) openings) (table (λ k. get_or (out k) i false) openings) openings (table-length (λ k. get_or (out k) i false) openings)
          ∙ sum_same openings 0 (λ k. cond (get_or (table (λ k. get_or (out k) i false) openings) k false) (get_or (table (λ _. (part_at job i).removal) openings) k 0) 0) (removed i)
          (λ k _ l. ap₂ (λ (b : Bool) (n : ℕ). cond b n 0) (table_at (λ k. get_or (out k) i false) openings k false (omega arith)) (table_at (λ _. (part_at job i).removal) openings k 0 (omega arith)))

      dismountings : sum 0 parts (λ i. sum 1 T (dismounting i)) ≡ removals_of_lem job plan.changes
      dismountings =
          sum_same parts 0 (λ i. sum 1 T (dismounting i)) (λ i. sum 0 openings (removed i)) (λ i _ _. part_removed i)
          ∙ sym (sum_swap parts 0 openings 0 removed)
          ∙ sum_same openings 0 (λ k. sum 0 parts (λ i. removed i k)) (λ k. sum_at (map removal_of_lem job.parts) (out k)) (λ k _ _. sym (at_opening_lem k))
        where
          at_opening_lem : (k : ℕ) → sum_at (map removal_of_lem job.parts) (out k) ≡ sum 0 parts (λ i. removed i k)
          at_opening_lem k =
              sum_at_lem (map removal_of_lem job.parts) (out k) parts (outs_length job plan.changes k)
              ∙ sum_same parts 0 (λ i. cond (get_or (out k) i false) (get_or (map removal_of_lem job.parts) i 0) 0) (λ i. removed i k)
              (λ i _ _. ap (λ (n : ℕ). cond (get_or (out k) i false) n 0) (get_or-map removal_of_lem job.parts i no_part))

      purchases : sum 0 parts (λ i. sum 1 T (purchase i)) ≡ prices_of_lem job.parts plan.changes
      purchases = sum_same parts 0 (λ i. sum 1 T (purchase i)) (λ i. sum_at (part_at job i).prices (changes_at plan i))
          (λ i _ h. sum_steps T steps 0 (part_at job i).prices (changes_at plan i) proper.openings (proper.prices i (omega arith) ∙ sym opening_count_lem2))
          ∙ sym (prices-sum job.parts plan.changes)

  -- ---- part number i + 1

  module _ (i : ℕ) where
    abbrev L : ℕ
    L = (part_at job i).life

    abbrev R : ℕ
    R = (part_at job i).left

    -- the steps at which it is changed
    abbrev set : List ℕ
    set = select steps (changes_at plan i)

    windows_are : i < parts → KeptAt job plan i ↔ RunningWindows is T L R set
    windows_are h = part_windows job (part_at job i) (changes_at plan i) (proper.left_high i h) proper.openings proper.idles

    steps_run : is ≡ [] → RunningWindows is T L R set ↔ Windows T L R set
    steps_run none = subst (λ (is : List ℕ). RunningWindows is T L R set ↔ Windows T L R set) (sym none) (no_idles_lem T L R set)

    sum_served : (k b : ℕ) → (1 ≤ running_sum job k b (x job plan i)) ↔ Served is set k b
    sum_served = served_is T steps proper.openings (changes_at plan i) is

    sum_changed : (a n b : ℕ) → a + n ≡ b + 1 → (1 ≤ sum a n (x job plan i)) ↔ Changed set a b
    sum_changed = window_is T steps proper.openings (changes_at plan i)

  -- ---- the plan keeps the lives: its sizes, each part's windows, changes at stops

  record Parted : Type 0 where
    variables : Variables job plan
    windows : (i : ℕ) → i < parts → RunningWindows is T (L i) (R i) (set i)
    at_stops : AtStops job plan

  united : Parted → KeepsLives job plan
  united p =
      let v = p.variables in
      kept_lives job plan (record {
        stops = v.stops;
        parts = v.parts;
        sizes = v.changes;
        at_stops = λ i m h. most_stops T steps (changes_at plan i) plan.stops proper.openings (v.changes i h ∙ sym opening_count_lem2) (λ t. p.at_stops i t h) m;
      }) (λ i h. (windows_are i h).1 (p.windows i h))

  parted : KeepsLives job plan → Parted
  parted k =
      let s = lives_shaped job plan k in
      record {
        variables = record { stops = s.stops; parts = s.parts; changes = s.sizes };
        windows = λ i h. (windows_are i h).0 (lives_kept job plan k i h);
        at_stops = λ i t h _ _. stops_most steps (changes_at plan i) plan.stops (λ m. s.at_stops i m h) t;
      }

  -- ---- the theorems

  -- a plan keeps the lives exactly if it meets the constraints over windows of running steps, and its cost is the objective
  pub published_running : Tied job plan (PublishedRunning job plan)
  published_running = record { keeps = (to, from); cost = cost_is }
    where
      to : KeepsLives job plan → PublishedRunning job plan
      to k =
          let p = parted k in
          record {
            variables = p.variables;
            first = λ i h q. (sum_served i 0 (R i)).1 ((p.windows i h).first q);
            later = λ i k h l m q. (sum_served i k (running is k + L i)).1 ((p.windows i h).later k l m q);
            at_stops = p.at_stops;
          }

      from : PublishedRunning job plan → KeepsLives job plan
      from p = united (record {
        variables = p.variables;
        windows = λ i h. record {
          first = λ q. (sum_served i 0 (R i)).0 (p.first i h q);
          later = λ k l m q. (sum_served i k (running is k + L i)).0 (p.later i k h l m q);
        };
        at_stops = p.at_stops;
      })

  -- without idle steps: the constraints as published
  pub published : job.idles ≡ [] → Tied job plan (Published job plan)
  published none = record { keeps = (to, from); cost = cost_is }
    where
      to : KeepsLives job plan → Published job plan
      to k =
          let p = parted k in
          record {
            variables = p.variables;
            first = λ i h q. (sum_changed i 1 (R i) (R i) (omega arith)).1 (((steps_run i none).0 (p.windows i h)).first q);
            later = λ i k h l q. (sum_changed i (k + 1) (L i) (k + L i) (omega arith)).1 (((steps_run i none).0 (p.windows i h)).later k l q);
            at_stops = p.at_stops;
          }

      from : Published job plan → KeepsLives job plan
      from p = united (record {
        variables = p.variables;
        windows = λ i h. (steps_run i none).1 (record {
          first = λ q. (sum_changed i 1 (R i) (R i) (omega arith)).0 (p.first i h q);
          later = λ k l q. (sum_changed i (k + 1) (L i) (k + L i) (omega arith)).0 (p.later i k h l q);
        });
        at_stops = p.at_stops;
      })
