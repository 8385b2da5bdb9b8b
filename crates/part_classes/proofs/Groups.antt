-- The classes of the parts: by one part more, in a class that is there or in a new one.
use Prim.Native.Nat.{ℕ, zero, suc, ◌+◌, ◌*◌, ◌<◌, ◌≤◌}
use mathlib.Core.Path.{◌≡◌, refl, sym, ap, subst, ◌∙◌}
use mathlib.Core.Bool.{Bool, true, false, cond, ◌&&◌, beq, and-eq-true_iff}
use mathlib.Core.List.{List}
use native.Mathlib.Omega.{arith}
use native.Mathlib.Decide.{ℕ_discrete}
use native.Mathlib.Numerals.{add-one}
use borrow.Author.Count.{below_more}
use borrow.Author.Tests.{lt-ltb, le-ltb}
use lib.ListN.{length, get_or, set, take, drop, replicate}
use lib.Seq.{get_or-take, length-take-le, get_or-drop, ext_get_or, get_or-set_same, get_or-set_other}
use Rattle.std.specs.Bool.{Decides}
use Rattle.std.specs.Cmp.{booleans_Decides}
use Rattle.std.specs.List.{AllWithin, HoldsAt}
use Rattle.std.specs.Prelude.{Option, Some, None, MatchOption}
use Rattle.base.proofs.Bools.{there, blank}
use Rattle.part_classes.specs.declared.classes.Classes.{Classes}
use Rattle.lane_rows.specs.Layout.{lane_count_lem}
use Rattle.held_places.specs.Arrays.{need_stride, needs_at}
use Rattle.part_classes.specs.Led.{Led}
use Rattle.part_classes.specs.Grouped.{need_at, same_needs_lem, first_from, class_at, put, Grouping, classes_of_lem, Grouped}

-- ---- needs that are the same

module _ (nd : List Bool) (p q : ℕ) where
  -- parts with the same first b needs and the same need of holding part b have one need more in common
  same_more : (b : ℕ) → same_needs_lem nd b p q ≡ true → beq (need_at nd p b) (need_at nd q b) ≡ true → same_needs_lem nd (suc b) p q ≡ true
  unfolding same_needs_lem
  same_more b e f = ap (λ (x : Bool). x && beq (need_at nd p b) (need_at nd q b)) e ∙ f

  -- each of them is the same
  all_same : (h : ℕ) → same_needs_lem nd h p q ≡ true → (i : ℕ) → i < h → need_at nd p i ≡ need_at nd q i
  unfolding same_needs_lem
  all_same zero e i l = absurd (omega arith)
  all_same (suc h) e i l =
      let both = (and-eq-true_iff (same_needs_lem nd h p q) (beq (need_at nd p h) (need_at nd q h))).0 e in
      below_more (λ (x : ℕ). need_at nd p x ≡ need_at nd q x) h (all_same h both.0) ((booleans_Decides _ _).0 both.1) i (omega arith)

  same_all : (h : ℕ) → ((i : ℕ) → i < h → need_at nd p i ≡ need_at nd q i) → same_needs_lem nd h p q ≡ true
  unfolding same_needs_lem
  same_all zero f = refl
  same_all (suc h) f = same_more h (same_all h (λ i l. f i (omega arith))) ((booleans_Decides _ _).1 (f h (omega arith)))

  module _ (h : ℕ) where
    at : (p i : ℕ) → i < h → get_or (needs_at h nd p) i false ≡ need_at nd p i
    at p i g = get_or-take h (drop (p * need_stride) nd) i false g ∙ get_or-drop (p * need_stride) nd i false

    -- parts whose needs are equal as lists are found to need the same
    pub same_needs_lem2 : needs_at h nd p ≡ needs_at h nd q → same_needs_lem nd h p q ≡ true
    same_needs_lem2 e = same_all h (λ i r. sym (at p i r) ∙ ap (λ (x : List Bool). get_or x i false) e ∙ at q i r)

    -- and the other way round, where the lists are as long as there are holding parts
    pub same_decided : length (needs_at h nd p) ≡ h → length (needs_at h nd q) ≡ h → Decides (same_needs_lem nd h p q) (needs_at h nd p ≡ needs_at h nd q)
    same_decided m n = (λ e. ext_get_or false (needs_at h nd p) (needs_at h nd q) (m ∙ sym n) (λ i g. let r : i < h = omega (arith, g, m) in at p i r ∙ all_same h e i r ∙ sym (at q i r)), same_needs_lem2)

-- ---- the first of which something is true

module _ (f : ℕ → Bool) where
  first_most : (i k : ℕ) → first_from f i k ≤ i + k
  unfolding first_from
  first_most i zero = omega arith
  first_most i (suc k) = go (f i) (first_most (suc i) k)
    where
      go : (t : Bool) → first_from f (suc i) k ≤ suc i + k → cond t i (first_from f (suc i) k) ≤ i + suc k
      go true r = omega arith
      go false r = omega (arith, r)

  -- where there is none, it is true of none
  first_none : (i k : ℕ) → i + k ≤ first_from f i k → (d : ℕ) → i ≤ d → d < i + k → f d ≡ true → ⊥
  unfolding first_from
  first_none i zero l d a b e = omega (arith, a, b)
  first_none i (suc k) l d a b e = go (f i) refl l (ℕ_discrete d i) (λ m z. first_none (suc i) k m d z (omega (arith, b)) e)
    where
      go : (t : Bool) → f i ≡ t → i + suc k ≤ cond t i (first_from f (suc i) k) → Dec (d ≡ i) → (suc i + k ≤ first_from f (suc i) k → suc i ≤ d → ⊥) → ⊥
      go true g m z r = omega (arith, m)
      go false g m (yes z) r = let y : ◌≡◌ {A = ℕ} 0 1 = ap (λ (x : Bool). cond x 1 0) (sym g ∙ ap f (sym z) ∙ e) in omega arith
      go false g m (no z) r = r (omega (arith, m)) (omega (arith, z, a))

  -- one looked at and passed by, and the one that is found
  first_not : (i k : ℕ) → f i ≡ false → first_from f i (suc k) ≡ first_from f (suc i) k
  unfolding first_from
  first_not i k e = ap (λ (t : Bool). cond t i (first_from f (suc i) k)) e

  -- where it is true of number i, that is the first from i on
  first_here : (i k : ℕ) → f i ≡ true → first_from f i (suc k) ≡ i
  unfolding first_from
  first_here i k e = ap (λ (t : Bool). cond t i (first_from f (suc i) k)) e

  -- of no numbers the first is the one behind them
  first_end : (i : ℕ) → first_from f i 0 ≡ i
  unfolding first_from
  first_end i = refl

  -- where it is true of number i and of none before it, that is the first
  first_found : (s n i : ℕ) → i < n → f (s + i) ≡ true → ((d : ℕ) → d < i → f (s + d) ≡ false) → first_from f s n ≡ s + i
  first_found s zero i l e h = absurd (omega (arith, l))
  first_found s (suc n) zero l e h = let z : s + 0 ≡ s = omega arith in first_here s n (ap f (sym z) ∙ e) ∙ sym z
  first_found s (suc n) (suc i) l e h =
      let z : s + suc i ≡ suc s + i = omega arith in
      let y : s ≡ s + 0 = omega arith in
      first_not s n (ap f y ∙ h 0 (omega arith))
      ∙ first_found (suc s) n i (omega (arith, l)) (ap f (sym z) ∙ e) (λ d m. let x : suc s + d ≡ s + suc d = omega arith in ap f x ∙ h (suc d) (omega (arith, m)))
      ∙ sym z

  -- where it is true of none, the first is the one behind them
  first_missing : (s n : ℕ) → ((d : ℕ) → d < n → f (s + d) ≡ false) → first_from f s n ≡ s + n
  first_missing s zero h = first_end s ∙ (let z : s ≡ s + 0 = omega arith in z)
  first_missing s (suc n) h =
      let y : s ≡ s + 0 = omega arith in
      let z : suc s + n ≡ s + suc n = omega arith in
      first_not s n (ap f y ∙ h 0 (omega arith)) ∙ first_missing (suc s) n (λ d m. let x : suc s + d ≡ s + suc d = omega arith in ap f x ∙ h (suc d) (omega (arith, m))) ∙ z

-- the first of m entries of a list of which f is true, as a search through them finds it: P holds of it too
pub first_in : (f : ℕ → Bool) (P : ℕ → Type 0) (xs : List ℕ) (m : ℕ) → m ≤ length xs → (r : Option ℕ)
    → MatchOption r (AllWithin (λ x. f x ≡ false) (take m xs) 0 (length (take m xs))) (λ i. (i < length (take m xs)) × HoldsAt (λ x. (f x ≡ true) × P x) (take m xs) i × AllWithin (λ x. f x ≡ false) (take m xs) 0 i)
    → MatchOption r (first_from (λ (d : ℕ). f (get_or xs d 0)) 0 m ≡ m) (λ i. (i ≡ first_from (λ (d : ℕ). f (get_or xs d 0)) 0 m) × (i < m) × P (get_or xs i 0))
first_in f P xs m few r = go r
  where
    size : length (take m xs) ≡ m
    size = length-take-le m xs few

    at : (d : ℕ) → d < m → get_or (take m xs) (0 + d) 0 ≡ get_or xs (0 + d) 0
    at d l = get_or-take m xs (0 + d) 0 (omega (arith, l))

    none : (i : ℕ) → i ≤ m → AllWithin (λ x. f x ≡ false) (take m xs) 0 i → (d : ℕ) → d < i → f (get_or xs (0 + d) 0) ≡ false
    none i l h d g = ap f (sym (at d (omega (arith, l, g)))) ∙ h (0 + d) 0 (omega arith) (omega (arith, g))

    go : (r : Option ℕ) → MatchOption r (AllWithin (λ x. f x ≡ false) (take m xs) 0 (length (take m xs))) (λ i. (i < length (take m xs)) × HoldsAt (λ x. (f x ≡ true) × P x) (take m xs) i × AllWithin (λ x. f x ≡ false) (take m xs) 0 i)
        → MatchOption r (first_from (λ (d : ℕ). f (get_or xs d 0)) 0 m ≡ m) (λ i. (i ≡ first_from (λ (d : ℕ). f (get_or xs d 0)) 0 m) × (i < m) × P (get_or xs i 0))
    go None h = let z : 0 + m ≡ m = omega arith in first_missing (λ (d : ℕ). f (get_or xs d 0)) 0 m (none m (omega arith) (rw size at h)) ∙ z
    go (Some i) h =
        let l : i < m = omega (arith, h.0, size) in
        let z : 0 + i ≡ i = omega arith in
        let own = subst (λ (x : ℕ). (f x ≡ true) × P x) (get_or-take m xs i 0 l) (h.1 0) in
        (sym (first_found (λ (d : ℕ). f (get_or xs d 0)) 0 m i l (ap (λ (x : ℕ). f (get_or xs x 0)) z ∙ own.0) (none i (omega (arith, l)) h.2) ∙ z), l, own.1)

-- the lead of a class that is there is a small number
pub lead_below : (k : Classes) (i v : ℕ) → i < length (take k.count k.leads) → v ≡ get_or (take k.count k.leads) i v → v < lane_count_lem
lead_below k i v l e =
    let size = length-take-le k.count k.leads (omega (arith, k.led.room, k.led.most)) in
    omega (arith, e, get_or-take k.count k.leads i v (omega (arith, l, size)), there k.leads i v 0 (omega (arith, l, size, k.led.room, k.led.most)), k.led.lead i)

-- an entry of a list that one was written to
pub set_at : (P : ℕ → Type 0) (xs : List ℕ) (at v x : ℕ) → at < length xs → (x ≡ at → P v) → ((x ≡ at → ⊥) → P (get_or xs x 0)) → P (get_or (set xs at v) x 0)
set_at P xs at v x room a b = go (ℕ_discrete x at)
  where
    go : Dec (x ≡ at) → P (get_or (set xs at v) x 0)
    go (yes e) = subst (λ (y : ℕ). P (get_or (set xs at v) y 0)) (sym e) (subst P (sym (get_or-set_same xs at v 0 room)) (a e))
    go (no e) = subst P (sym (get_or-set_other xs at x v 0 e)) (b e)

-- ---- classes

module _ (nd : List Bool) (h : ℕ) where
  -- of no part
  pub group_none : Grouped nd h 0 (record { lanes = replicate 16 0; leads = replicate 16 0; count = 0 })
  unfolding classes_of_lem
  group_none =
      record {
        is = refl;
        few = omega arith;
        class = λ q l. absurd (omega arith);
        same = λ q l. absurd (omega arith);
        merged = λ p q l m e. absurd (omega arith);
        lead = λ c l. absurd (omega arith);
        own = λ c l. absurd (omega arith);
        past = λ q l. blank 0 16 q;
        first = refl;
      }

  module _ (k : Grouping) (q c : ℕ) (small : Led k.lanes k.leads k.count) (g : Grouped nd h q k) (l : q < lane_count_lem) (e : c ≡ class_at nd h k q) where
    -- the lead of class d needs what part q needs
    abbrev like : ℕ → Bool
    like d = same_needs_lem nd h (get_or k.leads d 0) q

    -- the class found for a part is one that is there, or the next new one
    m : c ≤ k.count
    m = omega (arith, e, first_most like 0 k.count)

    -- the definition's next step
    step : put k q c ≡ classes_of_lem nd h (q + 1)
    unfolding classes_of_lem
    step = ap (put k q) e ∙ ap (λ (x : Grouping). put x q (class_at nd h x q)) g.is ∙ sym (ap (classes_of_lem nd h) (add-one q))

    abbrev lanes' : List ℕ
    lanes' = set k.lanes q c

    here : get_or lanes' q 0 ≡ c
    here = get_or-set_same k.lanes q c 0 (omega (arith, small.size))

    other : (r : ℕ) → (r ≡ q → ⊥) → get_or lanes' r 0 ≡ get_or k.lanes r 0
    other r n = get_or-set_other k.lanes q r c 0 n

    begin : get_or lanes' 0 0 ≡ 0
    begin = set_at (λ (x : ℕ). x ≡ 0) k.lanes q c 0 (omega (arith, small.size)) (λ z. omega (arith, z, m, g.few)) (λ z. g.first)

    -- parts that need the same are of one class, where part q is of the class of those before it that need what it needs
    pairs : ((p : ℕ) → p < q → needs_at h nd p ≡ needs_at h nd q → get_or k.lanes p 0 ≡ c)
        → (p r : ℕ) → p < q + 1 → r < q + 1 → needs_at h nd p ≡ needs_at h nd r → get_or lanes' p 0 ≡ get_or lanes' r 0
    pairs f p r a b =
        below_more (λ (p : ℕ). (r : ℕ) → r < q + 1 → needs_at h nd p ≡ needs_at h nd r → get_or lanes' p 0 ≡ get_or lanes' r 0) q
        (λ p i. below_more (λ (r : ℕ). needs_at h nd p ≡ needs_at h nd r → get_or lanes' p 0 ≡ get_or lanes' r 0) q
        (λ r j o. past p i ∙ g.merged p r i j o ∙ sym (past r j)) (λ o. past p i ∙ f p i o ∙ sym here))
        (below_more (λ (r : ℕ). needs_at h nd q ≡ needs_at h nd r → get_or lanes' q 0 ≡ get_or lanes' r 0) q (λ r j o. here ∙ sym (f r j (sym o)) ∙ sym (past r j)) (λ o. refl))
        p a r b
      where
        past : (r : ℕ) → r < q → get_or lanes' r 0 ≡ get_or k.lanes r 0
        past r j = other r (λ z. omega (arith, z))

    -- in a class that is there
    pub group_old : c < k.count → needs_at h nd (get_or k.leads c 0) ≡ needs_at h nd q → Grouped nd h (q + 1) (record { lanes = lanes'; leads = k.leads; count = k.count })
    group_old n needed =
        record {
          is = sym (ap (λ (t : Bool). cond t (record { lanes = lanes'; leads = k.leads; count = k.count }) (record { lanes = lanes'; leads = set k.leads c q; count = k.count + 1 })) (lt-ltb c k.count n)) ∙ step;
          few = omega (arith, g.few);
          class = below_more (λ (r : ℕ). get_or lanes' r 0 < k.count) q (λ r i. omega (arith, other r (λ z. omega (arith, z)), g.class r i)) (omega (arith, here));
          same = below_more (λ (r : ℕ). needs_at h nd (get_or k.leads (get_or lanes' r 0) 0) ≡ needs_at h nd r) q
              (λ r i. ap (λ (x : ℕ). needs_at h nd (get_or k.leads x 0)) (other r (λ z. omega (arith, z))) ∙ g.same r i)
              (ap (λ (x : ℕ). needs_at h nd (get_or k.leads x 0)) here ∙ needed);
          merged = pairs (λ p i o.
              let d = get_or k.lanes p 0 in
              let j = g.class p i in
              sym (g.own d j) ∙ sym (g.merged (get_or k.leads c 0) (get_or k.leads d 0) (g.lead c n) (g.lead d j) (needed ∙ sym o ∙ sym (g.same p i))) ∙ g.own c n);
          lead = λ d i. omega (arith, g.lead d i);
          own = λ d i. other (get_or k.leads d 0) (λ z. omega (arith, z, g.lead d i)) ∙ g.own d i;
          past = λ r i. other r (λ z. omega (arith, z)) ∙ g.past r (omega arith);
          first = begin;
        }

    -- in a new class, which it leads
    pub group_new : (k.count ≤ c) → Grouped nd h (q + 1) (record { lanes = lanes'; leads = set k.leads c q; count = k.count + 1 })
    group_new n =
        record {
          is = sym (ap (λ (t : Bool). cond t (record { lanes = lanes'; leads = k.leads; count = k.count }) (record { lanes = lanes'; leads = leads'; count = k.count + 1 })) (le-ltb c k.count n)) ∙ step;
          few = omega (arith, g.few);
          class = below_more (λ (r : ℕ). get_or lanes' r 0 < k.count + 1) q (λ r i. omega (arith, other r (λ z. omega (arith, z)), g.class r i)) (omega (arith, here, m));
          same = below_more (λ (r : ℕ). needs_at h nd (get_or leads' (get_or lanes' r 0) 0) ≡ needs_at h nd r) q
              (λ r i. ap (needs_at h nd) (ap (λ (x : ℕ). get_or leads' x 0) (other r (λ z. omega (arith, z))) ∙ kept (get_or k.lanes r 0) (g.class r i)) ∙ g.same r i)
              (ap (needs_at h nd) (ap (λ (x : ℕ). get_or leads' x 0) here ∙ led_by));
          merged = pairs (λ p i o.
              let d = get_or k.lanes p 0 in
              absurd (first_none like 0 k.count (omega (arith, e, n)) d (omega arith) (omega (arith, g.class p i)) (same_needs_lem2 nd (get_or k.leads d 0) q h (g.same p i ∙ o))));
          lead = λ d i. below_more (λ (x : ℕ). get_or leads' x 0 < q + 1) c (λ x j. omega (arith, kept x (omega (arith, j, m)), g.lead x (omega (arith, j, m)))) (omega (arith, led_by)) d (omega (arith, i, n, m));
          own = λ d i. below_more (λ (x : ℕ). get_or lanes' (get_or leads' x 0) 0 ≡ x) c
              (λ x j. let p : x < k.count = omega (arith, j, m) in ap (λ (y : ℕ). get_or lanes' y 0) (kept x p) ∙ other (get_or k.leads x 0) (λ z. omega (arith, z, g.lead x p)) ∙ g.own x p)
              (ap (λ (y : ℕ). get_or lanes' y 0) led_by ∙ here) d (omega (arith, i, n, m));
          past = λ r i. other r (λ z. omega (arith, z)) ∙ g.past r (omega arith);
          first = begin;
        }
      where
        leads' : List ℕ
        leads' = set k.leads c q

        room : c < length k.leads
        room = omega (arith, m, small.room, g.few)

        led_by : get_or leads' c 0 ≡ q
        led_by = get_or-set_same k.leads c q 0 room

        kept : (d : ℕ) → d < k.count → get_or leads' d 0 ≡ get_or k.leads d 0
        kept d i = get_or-set_other k.leads c d q 0 (λ z. omega (arith, z))
