-- The terms by classes, filled part by part, are the largest over the parts of a class: each part's own table raises its class's.
use Prim.Native.Nat.{ℕ, ◌+◌, ◌-◌, ◌*◌, ◌≤◌, ◌<◌, min, max}
use mathlib.Core.Path.{◌≡◌, refl, sym, ap, subst, ◌∙◌}
use mathlib.Core.Bool.{Bool, cond}
use mathlib.Core.List.{List, []}
use native.Mathlib.Omega.{arith}
use native.Mathlib.Numerals.{add-one}
use native.Mathlib.Decide.{ℕ_discrete}
use borrow.Author.Tests.{eq-eqb, ne_eqb}
use lib.ListN.{length, get_or, take}
use lib.Seq.{take-suc}
use Rattle.branch.specs.declared.Bound.{Bound}
use Rattle.branch.specs.declared.Bound.TheVariants.{Sum}
use Rattle.branch.specs.Lower.{larger, largest}
use Rattle.branch.proofs.Lower.{largest_snoc}
use Rattle.base.specs.Filled.{FilledBy}
use Rattle.model.specs.LastYes.{mark_in}
use Rattle.least.specs.Suffix.{code_of}
use Rattle.least.proofs.Most.{most_least}
use Rattle.lane_rows.specs.Layout.{lane_count_lem, mark_count, top, inf, block_size}
use Rattle.lane_rows.specs.Sheet.{Column, Sheet}
use Rattle.lane_rows.specs.Tables.{Coded, fee_from}
use Rattle.lane_rows.proofs.Lanes.{coded_larger}
use Rattle.lane_rows.proofs.Rising.{row_inside}
use Rattle.search_tables.specs.Fill.{step_rows}
use Rattle.search_tables.specs.Fill as fill
use Rattle.search_tables.proofs.Filling.{coded}
use Rattle.search_tables.proofs.Raising.{raised_as}
use Rattle.search_tables.proofs.Triangles.{triangle_most}
use Rattle.held_rows.specs.Held.{HeldColumn, no_lane}
use Rattle.held_lanes.specs.Places.{class_place, held_size}
use Rattle.held_tables.specs.Fill.{Raised, in_class, Terms}

module _ (sheet : Sheet) (few : length sheet.positions ≤ 64) where
  -- a level's terms stand among the terms
  inside : (j i c : ℕ) → i ≤ j → j ≤ length sheet.positions → c < lane_count_lem → class_place j i c < block_size
  inside j i c h g l = omega (arith, row_inside j i mark_count h (omega arith))

  -- a part's own table raises the terms of one class
  pub raised_in : (col : Column) (c : ℕ) (u v : List ℕ) → c < lane_count_lem → fill.Raised sheet col (step_rows c lane_count_lem) u v → Raised sheet col c u v
  raised_in col c u v l r =
      let f : fill.Raised sheet col (λ (j i : ℕ). class_place j i c) u v = raised_as sheet col (λ j i. omega arith) r in
      record {
        size = f.size;
        raised = λ j i h g. f.done j i h (omega arith);
        others = λ j i d h g n. f.rest (class_place j i d) (λ x y a b e. n (omega (arith, e)));
        small = λ s x b. triangle_most inf f (λ j i h g. omega (arith, s (class_place j i c) (inside j i c h (omega arith) l))) x (s x b);
      }

  module _ (lanes : List HeldColumn) where
    -- none yet
    pub terms_none : (u v : List ℕ) → length u ≡ held_size → FilledBy (λ (y : ℕ). y) (λ (y : ℕ). 0) block_size u v → Terms sheet lanes v 0
    terms_none u v s f =
        record {
          size = f.size ∙ s;
          right = λ j i c h g l. (f.done (class_place j i c) (inside j i c h g l), omega arith);
          small = λ x l. omega (arith, f.done x l);
        }

    -- one part more
    pub terms_more : (u v : List ℕ) (q : ℕ) → q < length lanes → ((j : ℕ) → get_or sheet.fees j 0 ≤ top) → Raised sheet (get_or lanes q no_lane).column (get_or lanes q no_lane).class u v → Terms sheet lanes u q
        → Terms sheet lanes v (q + 1)
    terms_more u v q h fair r s =
        record {
          size = r.size ∙ s.size;
          right = λ j i c l g m.
              subst (Coded (top * (length sheet.positions - j)) (get_or v (class_place j i c) 0)) (sym (one_more j i c)) (go j i c l g m (ℕ_discrete lane.class c));
          small = r.small s.small;
        }
      where
        lane : HeldColumn
        lane = get_or lanes q no_lane

        so_far : ℕ → ℕ → ℕ → Bound
        so_far j i c = largest (in_class sheet j i c) (take q lanes) []

        one_more : (j i c : ℕ) → largest (in_class sheet j i c) (take (q + 1) lanes) [] ≡ larger (so_far j i c) (in_class sheet j i c lane [])
        one_more j i c =
            ap (λ (xs : List HeldColumn). largest (in_class sheet j i c) xs []) (ap (λ (n : ℕ). take n lanes) (add-one q) ∙ take-suc lanes q no_lane h)
            ∙ largest_snoc (in_class sheet j i c) (take q lanes) lane []

        go : (j i c : ℕ) → i ≤ j → j ≤ length sheet.positions → c < lane_count_lem → Dec (lane.class ≡ c) → Coded (top * (length sheet.positions - j)) (get_or v (class_place j i c) 0) (larger (so_far j i c) (in_class sheet j i c lane []))
        go j i c l g m (yes e) =
            let b = top * (length sheet.positions - j) in
            let col = lane.column in
            let fee = fee_from sheet j i col [] in
            let x = get_or u (class_place j i c) 0 in
            let y = min (code_of fee) inf in
            let is : get_or v (class_place j i c) 0 ≡ max x y = subst (λ (k : ℕ). get_or v (class_place j i k) 0 ≡ max (get_or u (class_place j i k) 0) y) e (r.raised j i l g) in
            let own : in_class sheet j i c lane [] ≡ fee = ap (λ (t : Bool). cond t fee (Sum 0)) (eq-eqb lane.class c e) in
            subst (λ (n : ℕ). Coded b n (larger (so_far j i c) (in_class sheet j i c lane []))) (sym is)
            (subst (λ (z : Bound). Coded b (max x y) (larger (so_far j i c) z)) (sym own)
            (coded_larger b x y (so_far j i c) fee (omega arith) (s.right j i c l g m)
            (coded b fee y (omega arith) (most_least top col.life sheet.end (mark_in col.first sheet.positions i) sheet.positions sheet.fees [] j fair) refl)))
        go j i c l g m (no e) =
            let b = top * (length sheet.positions - j) in
            let x = get_or u (class_place j i c) 0 in
            let is : get_or v (class_place j i c) 0 ≡ max x 0 = r.others j i c l m (λ z. e (sym z)) ∙ (let y : x ≡ max x 0 = omega arith in y) in
            let not : in_class sheet j i c lane [] ≡ Sum 0 = ap (λ (t : Bool). cond t (fee_from sheet j i lane.column []) (Sum 0)) (ne_eqb lane.class c e) in
            subst (λ (n : ℕ). Coded b n (larger (so_far j i c) (in_class sheet j i c lane []))) (sym is)
            (subst (λ (z : Bound). Coded b (max x 0) (larger (so_far j i c) z)) (sym not) (coded_larger b x 0 (so_far j i c) (Sum 0) (omega arith) (s.right j i c l g m) (refl, omega arith)))
