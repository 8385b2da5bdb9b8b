-- The terms that the code finds stand for the node's: the largest number over the classes stands for the largest bound, by one class more.
use Prim.Native.Nat.{ℕ, zero, suc, ◌+◌, ◌-◌, ◌*◌, ◌<◌, ◌≤◌, max}
use mathlib.Core.Path.{◌≡◌, refl, sym, subst}
use mathlib.Core.Bool.{Bool, true, false, cond}
use mathlib.Core.List.{List, [], ◌∷◌, ◌++◌}
use native.Mathlib.Omega.{arith}
use lib.ListN.{length, get_or}
use Rattle.branch.specs.declared.Bound.{Bound}
use Rattle.branch.specs.declared.Bound.TheVariants.{Sum}
use Rattle.branch.specs.Search.{snoc}
use Rattle.lane_rows.specs.Layout.{top, lane_limit}
use Rattle.lane_rows.specs.Tables.{Coded}
use Rattle.lane_rows.proofs.Lanes.{coded_larger}
use Rattle.lane_rows.proofs.Terms.{last_most}
use Rattle.held_rows.specs.Held.{HeldSheet, needs_of_lem, seen, held_sums, held_term, held, largest_to, class_fee, last_for, Classed}
use Rattle.held_rows.proofs.Seen.{seen-length}
use Rattle.held_rows.proofs.Terms.{term_no, term_yes, term_stays, term_root}
use Rattle.held_lanes.specs.Places.{most_to, level_place, need_count_place, need_class_place, top_place}
use Rattle.held_lanes.specs.Tables.{needing, HeldTables, Lasts, term_of}

-- where each of k numbers stands for its bound, their largest stands for the largest of the bounds
pub coded_to : (b k : ℕ) (f : ℕ → ℕ) (F : ℕ → Bound) → b ≤ lane_limit → ((c : ℕ) → c < k → Coded b (f c) (F c)) → Coded b (most_to f k) (largest_to F k)
unfolding most_to largest_to
coded_to b zero f F h g = (refl, omega arith)
coded_to b (suc k) f F h g = coded_larger b (most_to f k) (f k) (largest_to F k) (F k) h (coded_to b k f F h (λ c l. g c (omega arith))) (g k (omega arith))

module _ (sheet : HeldSheet) (fit : Classed sheet) (u v : List ℕ) (he : HeldTables sheet u) (few : length sheet.positions ≤ 64) (bs : List (List Bool)) (r : ℕ) (ls : Lasts sheet v bs r) where
  abbrev count : ℕ
  count = length bs

  abbrev most : ℕ → ℕ
  most j = top * (length sheet.positions - j)

  -- one class
  term_at_lem : (j c : ℕ) → count ≤ j → j ≤ length sheet.positions → c < length sheet.needs → Coded (most j) (term_of u v j r c) (class_fee sheet j (last_for sheet bs c) c)
  term_at_lem j c h g l =
      subst (λ (o : ℕ). Coded (most j) (get_or u (level_place j o) 0) (class_fee sheet j (last_for sheet bs c) c)) (sym (ls c l))
      (he.terms j (last_for sheet bs c) c (omega (arith, last_most (seen (needs_of_lem sheet c) bs), seen-length (needs_of_lem sheet c) bs)) g l)

  -- all of them, and those that need the part b
  all_terms : (j : ℕ) → count ≤ j → j ≤ length sheet.positions → Coded (most j) (most_to (term_of u v j r) (length sheet.needs)) (largest_to (λ (c : ℕ). class_fee sheet j (last_for sheet bs c) c) (length sheet.needs))
  all_terms j h g = coded_to (most j) (length sheet.needs) (term_of u v j r) (λ (c : ℕ). class_fee sheet j (last_for sheet bs c) c) (omega arith) (λ c l. term_at_lem j c h g l)

  need_terms : (j b : ℕ) → count ≤ j → j ≤ length sheet.positions → b < held sheet
      → Coded (most j) (most_to (λ (i : ℕ). term_of u v j r (get_or u (need_class_place b i) 0)) (get_or u (need_count_place b) 0)) (largest_to (λ (c : ℕ). cond (needing sheet b c) (class_fee sheet j (last_for sheet bs c) c) (Sum 0)) (length sheet.needs))
  need_terms j b h g k =
      subst (λ (x : ℕ). Coded (most j) x (largest_to (λ (c : ℕ). cond (needing sheet b c) (class_fee sheet j (last_for sheet bs c) c) (Sum 0)) (length sheet.needs))) (sym (he.need_list b k (term_of u v j r)))
      (coded_to (most j) (length sheet.needs) (λ (c : ℕ). cond (needing sheet b c) (term_of u v j r c) 0) (λ (c : ℕ). cond (needing sheet b c) (class_fee sheet j (last_for sheet bs c) c) (Sum 0)) (omega arith) (λ c l. go c l (needing sheet b c)))
    where
      go : (c : ℕ) → c < length sheet.needs → (n : Bool) → Coded (most j) (cond n (term_of u v j r c) 0) (cond n (class_fee sheet j (last_for sheet bs c) c) (Sum 0))
      go c l true = term_at_lem j c h g l
      go c l false = (refl, omega arith)

  -- ---- the node's terms, where its lanes can be kept

  module _ (x : ℕ) (sums : held_sums sheet bs ≡ Sum x) where
    module _ (h : count < length sheet.positions) where
      -- the largest number over the classes, one level on, stands for the term after a no
      pub no_coded : Coded (most (count + 1)) (most_to (term_of u v (count + 1) r) (length sheet.needs)) (held_term sheet (bs ++ ((false ∷ []) ∷ [])))
      no_coded = subst (Coded (most (count + 1)) (most_to (term_of u v (count + 1) r) (length sheet.needs))) (sym (term_no sheet fit bs x sums h)) (all_terms (count + 1) (omega arith) (omega arith))

      -- the table's top number of the next level stands for the term of a stop with no removal decided
      pub yes_coded : Coded (most (count + 1)) (get_or u (top_place (count + 1)) 0) (held_term sheet (bs ++ ((true ∷ []) ∷ [])))
      yes_coded = subst (Coded (most (count + 1)) (get_or u (top_place (count + 1)) 0)) (sym (term_yes sheet fit bs x sums h)) (he.tops (count + 1) (omega arith))

      -- a stop's number, raised by those of the classes that need the next holding part, stands for the term where it stays
      pub stays_coded : (rs : List Bool) (g : ℕ) → length rs < held sheet → Coded (most (count + 1)) g (held_term sheet (bs ++ ((true ∷ rs) ∷ [])))
          → Coded (most (count + 1)) (max g (most_to (λ (i : ℕ). term_of u v (count + 1) r (get_or u (need_class_place (length rs) i) 0)) (get_or u (need_count_place (length rs)) 0))) (held_term sheet (bs ++ ((true ∷ snoc rs false) ∷ [])))
      stays_coded rs g l c =
          let m = most_to (λ (i : ℕ). term_of u v (count + 1) r (get_or u (need_class_place (length rs) i) 0)) (get_or u (need_count_place (length rs)) 0) in
          let e = largest_to (λ (c : ℕ). cond (needing sheet (length rs) c) (class_fee sheet (count + 1) (last_for sheet bs c) c) (Sum 0)) (length sheet.needs) in
          subst (Coded (most (count + 1)) (max g m)) (sym (term_stays sheet fit bs x sums h rs))
          (coded_larger (most (count + 1)) g m (held_term sheet (bs ++ ((true ∷ rs) ∷ []))) e (omega arith) c (need_terms (count + 1) (length rs) (omega arith) (omega arith) l))

-- the table's top number where nothing is decided stands for the first node's term
pub root_coded : (sheet : HeldSheet) → Classed sheet → (u : List ℕ) → HeldTables sheet u → Coded (top * (length sheet.positions - 0)) (get_or u (top_place 0) 0) (held_term sheet [])
root_coded sheet fit u he = subst (Coded (top * (length sheet.positions - 0)) (get_or u (top_place 0) 0)) (sym (term_root sheet fit)) (he.tops 0 (omega arith))
