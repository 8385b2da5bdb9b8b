-- The suffix table: each row from the one below it, by one unfolding of the least price.
use Prim.Native.Nat.{ℕ, suc, ◌+◌, ◌-◌, ◌*◌, ◌^◌, ◌<◌, ◌≤◌}
use mathlib.Core.Path.{◌≡◌, refl, sym, ap, ap₂, subst, ◌∙◌}
use mathlib.Core.List.{List}
use mathlib.Core.Bool.{Bool, true, false, ◌&&◌, cond}
use native.Mathlib.Omega.{arith}
use native.Mathlib.Decide.{ℕ_discrete}
use native.Mathlib.Numerals.{add-one}
use borrow.Author.Tests.{lt-ltb}
use lib.ListN.{length, get_or, drop, drop_of_length-le}
use lib.IntN.{ℤ, pos}
use Rattle.branch.specs.declared.Bound.{Bound}
use Rattle.branch.specs.declared.Bound.TheVariants.{Missing, Sum}
use Rattle.model.specs.Limits.{most_openings}
use Rattle.model.specs.Model.{within}
use Rattle.model.specs.LowerBound.{Offer, plus, lower, lower_than, least_of_lem, offers}
use Rattle.model.specs.LastYes.{mark_in}
use Rattle.base.specs.Filled.{FilledBy}
use Rattle.least.specs.Suffix.{table_size, cell, missing, of_code, code_of, row_of, end_of, Suffixes, changes_by_table}
use Rattle.base.proofs.Bools.{there}
use Rattle.model.proofs.Offers.{offers-length, offer_at, offers-drop, least_cons, least_nil}
use Rattle.least.proofs.Table.{changes_at}
use Rattle.least.proofs.Most.{AtMost, most_least}

-- ---- numbers for prices

-- a bound below the number for Missing is read back from its number in the table
pub code_read : (b : ℕ) (e : Bound) → b < missing → AtMost b e → of_code (code_of e) ≡ e
code_read b Missing h l = refl
code_read b (Sum n) h l = rw (lt-ltb n missing (omega arith))

-- ---- the whole table

module _ (life end first : ℤ) (ss : List ℤ) (ps : List ℕ) (fs : List Bool) (few : length ss ≤ most_openings) (f : length fs ≡ length ss) (cheap : (j : ℕ) → get_or ps j 0 < 2 ^ 32) where
  abbrev rest : ℕ → List Offer
  rest j = drop j (offers ss ps fs)

  -- what the code reads from row j, where rows k and up are right
  pub row_read : (tab : List ℕ) (k j i : ℕ) → k ≤ j → j ≤ length ss → i ≤ j → Suffixes life end first ss ps fs tab k
      → of_code (get_or tab (cell j i) 0) ≡ least_of_lem life end (mark_in first ss i) (drop j (offers ss ps fs))
  row_read tab k j i g h l s =
      ap of_code (s.rows j i g h l) ∙ code_read (2 ^ 32 * (length ss - j)) (least_of_lem life end (mark_in first ss i) (rest j)) (omega arith) (most_least (2 ^ 32) life end (mark_in first ss i) ss ps fs j (λ k. omega (arith, cheap k)))

  -- the row past the last opening is right once it is written for every mark
  pub suffix_end : (tab₀ tab : List ℕ) → table_size ≤ length tab₀ → FilledBy (cell (length ss)) (end_of life end first ss) (length ss + 1) tab₀ tab → Suffixes life end first ss ps fs tab (length ss)
  suffix_end tab₀ tab h r =
      record {
        size = omega (arith, r.size);
        rows = λ j i a b c.
            let e : j ≡ length ss = omega arith in
            rw e
            (r.done i (omega arith)
            ∙ ap code_of (sym (least_nil life end (mark_in first ss i) (rest (length ss)) (drop_of_length-le (offers ss ps fs) {i = length ss} (omega (arith, offers-length ss ps fs))))));
      }

  -- row k, written from row k + 1, makes the rows from k on right
  pub suffix_more : (tab₀ tab : List ℕ) (k : ℕ) (chg : Bound) → k < length ss → Suffixes life end first ss ps fs tab₀ (suc k)
      → chg ≡ plus (get_or ps k 0) (of_code (get_or tab₀ (cell (k + 1) (k + 1)) 0)) → FilledBy (cell k) (row_of life first ss k (get_or fs k false) chg tab₀) (k + 1) tab₀ tab
      → Suffixes life end first ss ps fs tab k
  suffix_more tab₀ tab k chg h s ec r =
      record { size = omega (arith, r.size, s.size); rows = λ j i a b c. go j i a b c (ℕ_discrete j k) }
    where
      ec' : chg ≡ plus (get_or ps k 0) (least_of_lem life end (get_or ss k (pos 0)) (rest (suc k)))
      ec' =
          let q : cell (k + 1) (k + 1) ≡ cell (suc k) (suc k) = omega arith in
          ec ∙ ap (λ (x : ℕ). plus (get_or ps k 0) (of_code (get_or tab₀ x 0))) q ∙ ap (plus (get_or ps k 0)) (row_read tab₀ (suc k) (suc k) (suc k) (omega arith) (omega arith) (omega arith) s)

      skipped : (i : ℕ) → i ≤ k → of_code (get_or tab₀ (cell (k + 1) i) 0) ≡ least_of_lem life end (mark_in first ss i) (rest (suc k))
      skipped i l = row_read tab₀ (suc k) (k + 1) i (omega arith) (omega arith) (omega arith) s ∙ ap (λ (n : ℕ). least_of_lem life end (mark_in first ss i) (rest n)) (add-one k)

      go : (j i : ℕ) → k ≤ j → j ≤ length ss → i ≤ j → Dec (j ≡ k) → get_or tab (cell j i) 0 ≡ code_of (least_of_lem life end (mark_in first ss i) (drop j (offers ss ps fs)))
      go j i a b c (no n) = r.rest (cell j i) (λ y l e. omega (arith, e)) ∙ s.rows j i (omega arith) b c
      go j i a b c (yes e) =
          rw e
          (r.done i (omega arith)
          ∙ ap code_of
          (ap₂ (λ (x y : Bound). lower x (cond (get_or fs k false && within life (mark_in first ss i) (get_or ss k (pos 0))) y Missing)) (skipped i (omega arith)) ec'
          ∙ ap (λ (t : Bool). lower (least_of_lem life end (mark_in first ss i) (rest (suc k))) (cond (t && within life (mark_in first ss i) (get_or ss k (pos 0))) (plus (get_or ps k 0) (least_of_lem life end (get_or ss k (pos 0)) (rest (suc k)))) Missing)) (there fs k false true (omega arith))
          ∙ sym (least_cons life end (mark_in first ss i) (rest k) (offer_at ss ps fs k) (rest (suc k)) (offers-drop ss ps fs k h))))

  -- what the table says of a change at opening k
  pub changes_read : (tab : List ℕ) (i k : ℕ) → i ≤ k → k < length ss → Suffixes life end first ss ps fs tab 0
      → changes_by_table life first ss ps fs tab i k ≡ changes_at life end (mark_in first ss i) (offer_at ss ps fs k) (drop (suc k) (offers ss ps fs))
  changes_read tab i k l h s =
      ap (λ (t : Bool). lower_than (of_code (get_or tab (cell (k + 1) i) 0)) (cond (t && within life (mark_in first ss i) (get_or ss k (pos 0))) (plus (get_or ps k 0) (of_code (get_or tab (cell (k + 1) (k + 1)) 0))) Missing)) (there fs k false true (omega arith)) ∙
      ap₂ (λ (x y : Bound). lower_than x (cond (get_or fs k true && within life (mark_in first ss i) (get_or ss k (pos 0))) (plus (get_or ps k 0) y) Missing)) (read i (omega arith)) (read (k + 1) (omega arith) ∙ ap (λ (n : ℕ). least_of_lem life end (mark_in first ss n) (rest (suc k))) (add-one k))
    where
      read : (x : ℕ) → x ≤ k + 1 → of_code (get_or tab (cell (k + 1) x) 0) ≡ least_of_lem life end (mark_in first ss x) (rest (suc k))
      read x g = row_read tab 0 (k + 1) x (omega arith) (omega arith) g s ∙ ap (λ (n : ℕ). least_of_lem life end (mark_in first ss x) (rest n)) (add-one k)

module _ (life end first : ℤ) (ss : List ℤ) (ps : List ℕ) (fs : List Bool) (tab : List ℕ) (k : ℕ) where
  -- rows that are right from k on are so from one past k - 1 on
  pub suffix_pred : 0 < k → Suffixes life end first ss ps fs tab k → Suffixes life end first ss ps fs tab (suc (k - 1))
  suffix_pred l s = let e : k ≡ suc (k - 1) = omega arith in subst (Suffixes life end first ss ps fs tab) e s
