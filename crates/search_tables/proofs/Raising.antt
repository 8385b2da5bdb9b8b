-- The terms, filled part by part, are the largest over the parts: each part's own table raises them, and the rows of the tables stay.
use Prim.Native.Nat.{ℕ, ◌+◌, ◌-◌, ◌*◌, ◌≤◌, ◌<◌, min, max}
use mathlib.Core.Path.{◌≡◌, refl, sym, ap, subst, ◌∙◌}
use mathlib.Core.Bool.{Bool, true}
use mathlib.Core.List.{List, []}
use native.Mathlib.Omega.{arith}
use native.Mathlib.Numerals.{add-one}
use lib.ListN.{length, get_or, take, drop}
use lib.Seq.{take-suc}
use Rattle.branch.specs.Lower.{larger, largest}
use Rattle.branch.proofs.Lower.{largest_snoc}
use Rattle.model.specs.LowerBound.{Offer, least_of_lem}
use Rattle.base.specs.Filled.{FilledBy}
use Rattle.model.specs.LastYes.{mark_in}
use Rattle.least.specs.Suffix.{code_of, Suffixes}
use Rattle.least.proofs.Most.{most_least}
use Rattle.lane_rows.specs.Layout.{row_place, triangle, top, inf, fee_place, count_place, fours_place, lanes_in, term_base, term_place}
use Rattle.lane_rows.specs.Sheet.{Column, Sheet, no_column}
use Rattle.lane_rows.specs.Tables.{Coded, fee_from, Tables, FeeTerms}
use Rattle.lane_rows.proofs.Lanes.{coded_larger}
use Rattle.lane_rows.proofs.Rising.{row_below}
use Rattle.search_tables.specs.Fill.{Triangle, own_of, Raised, Terms}
use Rattle.search_tables.proofs.Filling.{coded, offers_all, lane_kept}

-- a triangle that is raised, by other words for its places
pub raised_as : (sheet : Sheet) (col : Column) {at to : ℕ → ℕ → ℕ} {t u : List ℕ} → ((j i : ℕ) → at j i ≡ to j i) → Raised sheet col at t u → Raised sheet col to t u
raised_as sheet col {at} {to} {t} {u} e = subst (λ (p : ℕ → ℕ → ℕ). Raised sheet col p t u) (λ k j i. e j i k)

module _ (sheet : Sheet) (few : length sheet.positions ≤ 64) where
  -- none yet
  abbrev pub Cleared : List ℕ → List ℕ → Type 0
  Cleared t t' = FilledBy (λ (y : ℕ). term_base + y) (λ (y : ℕ). 0) (triangle (length sheet.positions + 1)) t t'

  -- where all terms are cleared, they are the largest over no parts
  pub terms_none : (t t' : List ℕ) → Cleared t t' → Terms sheet t' t' 0
  terms_none t t' f = record { size = refl; right = λ j i h g. (f.done (triangle j + i) (row_below j i (length sheet.positions + 1) h (omega arith)), omega arith); rest = λ x h. refl }

  -- terms that are right since they were cleared are right since before, as clearing moved nothing before them
  pub terms_since : (t t' u : List ℕ) (q : ℕ) → Cleared t t' → Terms sheet t' u q → Terms sheet t u q
  terms_since t t' u q f s = record { size = s.size ∙ f.size; right = s.right; rest = λ x h. s.rest x h ∙ f.rest x (λ y l e. omega (arith, e)) }

  -- a part's own table
  pub raised_by : {at : ℕ → ℕ → ℕ} (col : Column) (flags : List Bool) (tab t t' : List ℕ) → ((k : ℕ) → get_or flags k true ≡ true) → Suffixes col.life sheet.end col.first sheet.positions sheet.fees flags tab 0
      → Triangle at (λ (j i : ℕ). max (get_or t (at j i) 0) (own_of tab j i)) (length sheet.positions + 1) t t' → Raised sheet col at t t'
  raised_by {at} col flags tab t t' all s f =
      record {
        size = f.size;
        done = λ j i h g.
            f.done j i h g
            ∙ ap (λ (k : ℕ). max (get_or t (at j i) 0) (min k inf))
            (s.rows j i (omega arith) (omega arith) h ∙ ap (λ (os : List Offer). code_of (least_of_lem col.life sheet.end (mark_in col.first sheet.positions i) (drop j os))) (offers_all sheet.positions sheet.fees flags all));
        rest = f.rest;
      }

  -- one part more
  pub terms_more : (t u v : List ℕ) (q : ℕ) → q < length sheet.columns → ((j : ℕ) → get_or sheet.fees j 0 ≤ top) → Raised sheet (get_or sheet.columns q no_column) term_place u v → Terms sheet t u q → Terms sheet t v (q + 1)
  terms_more t u v q h fair r s =
      record {
        size = r.size ∙ s.size;
        right = λ j i l g.
            let col = get_or sheet.columns q no_column in
            let b = top * (length sheet.positions - j) in
            let x = get_or u (term_place j i) 0 in
            let e = fee_from sheet j i col [] in
            let y = min (code_of e) inf in
            subst (λ (n : ℕ). Coded b n (largest (fee_from sheet j i) (take (q + 1) sheet.columns) [])) (sym (r.done j i l (omega arith)))
            (subst (Coded b (max x y)) (sym (one_more j i))
            (coded_larger b x y (largest (fee_from sheet j i) (take q sheet.columns) []) e (omega arith) (s.right j i l g)
            (coded b e y (omega arith) (most_least top col.life sheet.end (mark_in col.first sheet.positions i) sheet.positions sheet.fees [] j fair) refl)));
        rest = λ x l. r.rest x (λ j i a b e. omega (arith, e)) ∙ s.rest x l;
      }
    where
      one_more : (j i : ℕ) → largest (fee_from sheet j i) (take (q + 1) sheet.columns) [] ≡ larger (largest (fee_from sheet j i) (take q sheet.columns) []) (fee_from sheet j i (get_or sheet.columns q no_column) [])
      one_more j i =
          ap (λ (xs : List Column). largest (fee_from sheet j i) xs []) (ap (λ (n : ℕ). take n sheet.columns) (add-one q) ∙ take-suc sheet.columns q no_column h)
          ∙ largest_snoc (fee_from sheet j i) (take q sheet.columns) (get_or sheet.columns q no_column) []

-- ---- the tables with their terms

-- the terms stand behind the rows of the tables, which stay; those over all parts are the sheet's
pub tables_termed : (sheet : Sheet) (t t' : List ℕ) → Tables sheet t → Terms sheet t t' sheet.parts → (Tables sheet t') × FeeTerms sheet t'
tables_termed sheet t t' ta s = (
  record {
    size = s.size ∙ ta.size;
    few = ta.few;
    wide = ta.wide ∙ sym same;
    some = omega (arith, same, ta.some);
    narrow = omega (arith, same, ta.narrow);
    paid = ta.paid;
    lanes = λ q h.
        lane_kept sheet.end sheet.positions (get_or sheet.columns q no_column) t t' q ta.few (λ y m. s.rest (row_place y q) (omega (arith, same, h, ta.narrow))) (ta.lanes q (omega (arith, same, h)));
    fees = λ j h. s.rest (fee_place j) (omega (arith, ta.few, h)) ∙ ta.fees j h;
    fair = ta.fair;
    count = s.rest count_place (omega arith) ∙ ta.count;
    real = omega (arith, same, ta.real);
    begun = ta.begun;
    spare = λ q k h. ta.spare q k (omega (arith, same, h));
    climbs = λ q h. ta.climbs q (omega (arith, same, h));
  },
  record { right = s.right },
)
  where
    same : lanes_in t' ≡ lanes_in t
    same = ap (λ (k : ℕ). k * 4) (s.rest fours_place (omega arith))
