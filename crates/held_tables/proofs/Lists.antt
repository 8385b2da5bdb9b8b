-- The list of the classes that need a holding part: by one class more, which is entered or not.
use Prim.Native.Nat.{ℕ, ◌+◌, ◌<◌, ◌≤◌, max}
use mathlib.Core.Path.{◌≡◌, refl, sym, ap, ap₂, subst, ◌∙◌}
use mathlib.Core.Bool.{Bool, true, false, cond}
use mathlib.Core.List.{List}
use native.Mathlib.Omega.{arith}
use native.Mathlib.Numerals.{add-one}
use borrow.Author.Count.{below_more}
use lib.ListN.{length, get_or, set, length-set}
use lib.Seq.{get_or-set_same, get_or-set_other}
use Rattle.lane_rows.specs.Layout.{lane_count_lem}
use Rattle.held_lanes.specs.Places.{most_to, need_count_place, need_class_place, held_size}
use Rattle.held_lanes.proofs.Most.{most_same}
use Rattle.part_classes.specs.declared.classes.Classes.{Classes}
use Rattle.part_classes.specs.Grouped.{need_in}
use Rattle.held_tables.specs.Fill.{Listing, Listed, Lists}

most_next : (f : ℕ → ℕ) (k : ℕ) → most_to f (k + 1) ≡ max (most_to f k) (f k)
unfolding most_to
most_next f k = rw (add-one k) refl

module _ (nd : List Bool) (k : Classes) where
  -- a list whose places and length stay
  pub listing_kept : (b c n : ℕ) (u v : List ℕ) → ((i : ℕ) → i < n → get_or v (need_class_place b i) 0 ≡ get_or u (need_class_place b i) 0) → Listing nd k b c n u → Listing nd k b c n v
  listing_kept b c n u v e l =
      record {
        most = λ f. most_same (λ (i : ℕ). f (get_or v (need_class_place b i) 0)) (λ (i : ℕ). f (get_or u (need_class_place b i) 0)) n (λ i g. ap f (e i g)) ∙ l.most f;
        class = λ i g. subst (λ (x : ℕ). x < c) (sym (e i g)) (l.class i g);
        few = l.few;
      }

  -- of the first c classes, n are entered, and nothing but the list moved
  pub record Entered (b c n : ℕ) (u v : List ℕ) : Type 0 where
    pub list : Listing nd k b c n v
    -- entering classes leaves the tables as long as before
    pub size : length v ≡ length u
    -- nothing but the list of this holding part moved
    pub rest : (x : ℕ) → ((i : ℕ) → i < lane_count_lem → x ≡ need_class_place b i → ⊥) → get_or v x 0 ≡ get_or u x 0

  -- before the first class is looked at the list is empty, and nothing moved
  pub entered_none : (b : ℕ) (u : List ℕ) → Entered b 0 0 u u
  unfolding most_to
  entered_none b u = record { list = record { most = λ f. refl; class = λ i l. absurd (omega arith); few = omega arith }; size = refl; rest = λ x h. refl }

  module _ (b c n : ℕ) (u v : List ℕ) (e : Entered b c n u v) where
    -- class c doesn't need it
    pub entered_not : need_in nd k b c ≡ false → Entered b (c + 1) n u v
    entered_not h =
        record {
          list = record {
            most = λ f.
                let g : ℕ → ℕ = λ (c : ℕ). cond (need_in nd k b c) (f c) 0 in
                let z : g c ≡ 0 = ap (λ (t : Bool). cond t (f c) 0) h in
                e.list.most f ∙ (let y : most_to g c ≡ max (most_to g c) (g c) = omega (arith, z) in y) ∙ sym (most_next g c);
            class = λ i l. omega (arith, e.list.class i l);
            few = omega (arith, e.list.few);
          };
          size = e.size;
          rest = e.rest;
        }

    -- class c needs it
    pub entered_more : need_in nd k b c ≡ true → c < lane_count_lem → b < lane_count_lem → length u ≡ held_size → Entered b (c + 1) (n + 1) u (set v (need_class_place b n) c)
    entered_more h l m s =
        record {
          list = record {
            most = λ f.
                let g : ℕ → ℕ = λ (c : ℕ). cond (need_in nd k b c) (f c) 0 in
                let z : g c ≡ f c = ap (λ (t : Bool). cond t (f c) 0) h in
                most_next (λ (i : ℕ). f (get_or w (need_class_place b i) 0)) n
                ∙ ap₂ max (most_same (λ (i : ℕ). f (get_or w (need_class_place b i) 0)) (λ (i : ℕ). f (get_or v (need_class_place b i) 0)) n (λ i r. ap f (other i r)) ∙ e.list.most f) (ap f same ∙ sym z)
                ∙ sym (most_next g c);
            class = below_more (λ (i : ℕ). get_or w (need_class_place b i) 0 < c + 1) n (λ i r. omega (arith, other i r, e.list.class i r)) (omega (arith, same));
            few = omega (arith, few);
          };
          size = length-set v (need_class_place b n) c ∙ e.size;
          rest = λ x a. get_or-set_other v (need_class_place b n) x c 0 (a n (omega (arith, few))) ∙ e.rest x a;
        }
      where
        few : n ≤ c
        few = e.list.few

        w : List ℕ
        w = set v (need_class_place b n) c

        same : get_or w (need_class_place b n) 0 ≡ c
        same = get_or-set_same v (need_class_place b n) c 0 (omega (arith, e.size, s, few, l, m))

        other : (i : ℕ) → i < n → get_or w (need_class_place b i) 0 ≡ get_or v (need_class_place b i) 0
        other i r = get_or-set_other v (need_class_place b n) (need_class_place b i) c 0 (λ z. omega (arith, z, r))

  -- once every class is looked at, the list of those that need the holding part is written
  pub listed_all : (b c n : ℕ) (u v : List ℕ) → c ≡ k.count → Entered b c n u v → Listed nd k b n u v
  listed_all b c n u v z e = record { list = subst (λ (x : ℕ). Listing nd k b x n v) z e.list; size = e.size; rest = e.rest }

  -- ---- all lists

  -- for no holding part there is no list to be written
  pub lists_none : (u : List ℕ) → Lists nd k 0 u u
  lists_none u = record { lists = λ x l. absurd (omega arith); before = record { size = refl; rest = λ x l. refl } }

  -- with its list and the list's length written, the lists of one holding part more are there
  pub lists_more : (b n : ℕ) (u v w : List ℕ) → b < lane_count_lem → k.count ≤ lane_count_lem → length u ≡ held_size → Listed nd k b n v w → Lists nd k b u v → Lists nd k (b + 1) u (set w (need_count_place b) n)
  lists_more b n u v w l few s e d =
      record {
        lists = below_more (λ (x : ℕ). Listing nd k x k.count (get_or t (need_count_place x) 0) t) b
            (λ x g.
            let count : get_or t (need_count_place x) 0 ≡ get_or v (need_count_place x) 0 = get_or-set_other w (need_count_place b) (need_count_place x) n 0 (λ z. omega (arith, z)) ∙ e.rest (need_count_place x) (λ i r z. omega (arith, z)) in
            let o = d.lists x g in
            subst (λ (m : ℕ). Listing nd k x k.count m t) (sym count)
            (listing_kept x k.count (get_or v (need_count_place x) 0) v t
            (λ i r. get_or-set_other w (need_count_place b) (need_class_place x i) n 0 (λ z. omega (arith, z)) ∙ e.rest (need_class_place x i) (λ y f z. omega (arith, z, r, f, o.few, few, g))) o))
            (subst (λ (m : ℕ). Listing nd k b k.count m t) (sym own) (listing_kept b k.count n w t (λ i r. get_or-set_other w (need_count_place b) (need_class_place b i) n 0 (λ z. omega (arith, z))) e.list));
        before = record {
          size = length-set w (need_count_place b) n ∙ e.size ∙ d.before.size;
          rest = λ x r. get_or-set_other w (need_count_place b) x n 0 (λ z. omega (arith, z)) ∙ e.rest x (λ i f z. omega (arith, z)) ∙ d.before.rest x r;
        };
      }
    where
      t : List ℕ
      t = set w (need_count_place b) n

      own : get_or t (need_count_place b) 0 ≡ n
      own = get_or-set_same w (need_count_place b) n 0 (omega (arith, e.size, d.before.size, s))
