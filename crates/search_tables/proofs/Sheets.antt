-- The sheet's bound is the job's: each part's column has the part's bound. A column past the last part has the first part's life and nothing to pay:
-- it is Missing where the first part's is, and else adds 0.
use Prim.Native.Nat.{ℕ, zero, suc, ◌+◌, ◌*◌, ◌≤◌, ◌<◌}
use mathlib.Core.Path.{◌≡◌, refl, sym, ap, ap₂, ◌∙◌}
use mathlib.Core.Bool.{Bool}
use mathlib.Core.List.{List, [], ◌∷◌}
use native.Mathlib.Omega.{arith}
use lib.ListN.{length, get_or, take, drop}
use lib.IntN.{ℤ, pos, ◌-ℤ◌}
use Rattle.branch.specs.declared.Bound.{Bound}
use Rattle.branch.specs.declared.Bound.TheVariants.{Missing, Sum}
use Rattle.branch.specs.Lower.{add, total, larger, largest}
use Rattle.model.specs.Model.{Part, Job, sum_at, last_change_lem}
use Rattle.model.specs.Verdict.{no_part}
use Rattle.model.specs.LowerBound.{least_of_lem, offers, undecided_fees}
use Rattle.model.specs.Unheld.{plain_part_bound, plain_part_fee, plain_bound}
use Rattle.model.proofs.Unpaid.{unpaid, unpaid_least}
use Rattle.held_places.specs.Arrays.{price_stride}
use Rattle.search_tables.specs.Arrays.{lane_part, column_of, columns_from, fours_of_lem, sheet_of, JobArrays}
use Rattle.search_tables.proofs.Filling.{own_each, past}
use Rattle.lane_rows.specs.Sheet.{column_bound, column_fee, sheet_bound}

-- ---- the columns

module _ (job : Job) (e : ℤ) (ss : List ℤ) (fs ls rs ps : List ℕ) (h : JobArrays job e ss fs ls rs ps) (p : List Bool) where
  -- the first part's bound
  abbrev begin : Bound
  begin = plain_part_bound job (get_or job.parts 0 no_part) p

  own : (q : ℕ) → q < length ls → column_bound (sheet_of e ss fs ls rs ps) (column_of (lane_part (length ss) ls rs ps q)) p ≡ plain_part_bound job (get_or job.parts q no_part) p
  unfolding column_bound
  own q l =
      let z = sym (h.part q l) in
      λ i. least_of_lem (pos (z i).life) (h.ends i) (last_change_lem (z i)) (offers (h.places i) (z i).prices p)

  idle : (q : ℕ) → length ls ≤ q → column_bound (sheet_of e ss fs ls rs ps) (column_of (lane_part (length ss) ls rs ps q)) p ≡ unpaid begin
  unfolding column_bound
  idle q l =
      let ar = h.arrays in
      let n = length ss in
      let a = past ls q ar.lives.some l in
      let b = past rs q (omega (arith, ar.lives.some, ar.lives.lefts)) (omega (arith, ar.lives.lefts)) in
      let zs = take n (drop (q * price_stride) ps) in
      let first = lane_part n ls rs ps 0 in
      (λ i. least_of_lem (pos (a i)) e (pos (b i) -ℤ pos (a i)) (offers ss zs p))
      ∙ unpaid_least (pos first.life) e (last_change_lem first) ss zs first.prices p (own_each (λ (x : ℕ). x ≡ 0) ps q n refl (λ j. ar.free (q * price_stride + j) (omega arith)))
      ∙ ap unpaid (own 0 ar.lives.some)

  -- the job's parts from q on
  abbrev PartsFrom : List Part → ℕ → Type 0
  PartsFrom xs q = (i : ℕ) → i < length xs → get_or xs i no_part ≡ get_or job.parts (q + i) no_part

  first_is : (x : Part) (xs : List Part) (q : ℕ) → PartsFrom (x ∷ xs) q → x ≡ get_or job.parts q no_part
  first_is x xs q f = let z : q + 0 ≡ q = omega arith in f 0 (omega arith) ∙ ap (λ (i : ℕ). get_or job.parts i no_part) z

  rest_are : (x : Part) (xs : List Part) (q : ℕ) → PartsFrom (x ∷ xs) q → PartsFrom xs (suc q)
  rest_are x xs q f = λ i l. let y : q + suc i ≡ suc q + i = omega arith in f (suc i) (omega arith) ∙ ap (λ (j : ℕ). get_or job.parts j no_part) y

  all_parts : PartsFrom job.parts 0
  all_parts = λ i l. let z : i ≡ 0 + i = omega arith in ap (λ (j : ℕ). get_or job.parts j no_part) z

  -- k columns from q on, of which the first are those of xs, where the first part can be kept
  columns_total : (x₀ : ℕ) → begin ≡ Sum x₀ → (xs : List Part) (q k : ℕ) → length xs ≤ k → q + length xs ≡ length ls → PartsFrom xs q
      → total (column_bound (sheet_of e ss fs ls rs ps)) (columns_from (length ss) ls rs ps q k) p ≡ total (plain_part_bound job) xs p
  unfolding columns_from
  columns_total x₀ b [] q k g m f = rest q k (omega arith)
    where
      rest : (q k : ℕ) → length ls ≤ q → total (column_bound (sheet_of e ss fs ls rs ps)) (columns_from (length ss) ls rs ps q k) p ≡ Sum 0
      rest q zero l = refl
      rest q (suc k) l = ap₂ add (idle q l ∙ ap unpaid b) (rest (suc q) k (omega arith))
  columns_total x₀ b (x ∷ xs) q zero g m f = absurd (omega arith)
  columns_total x₀ b (x ∷ xs) q (suc k) g m f =
      ap₂ add (own q (omega arith) ∙ ap (λ (part : Part). plain_part_bound job part p) (sym (first_is x xs q f)))
      (columns_total x₀ b xs (suc q) k (omega arith) (omega arith) (rest_are x xs q f))

  -- where it can't, both sums are Missing
  missing_total : (xs : List Part) → 0 < length xs → plain_part_bound job (get_or xs 0 no_part) p ≡ Missing → total (plain_part_bound job) xs p ≡ Missing
  missing_total [] g b = absurd (omega arith)
  missing_total (x ∷ xs) g b = ap (λ (y : Bound). add y (total (plain_part_bound job) xs p)) b

  all_total : (k : ℕ) → length ls ≤ k → (b : Bound) → begin ≡ b → total (column_bound (sheet_of e ss fs ls rs ps)) (columns_from (length ss) ls rs ps 0 k) p ≡ total (plain_part_bound job) job.parts p
  unfolding columns_from
  all_total k l (Sum x) b = columns_total x b job.parts 0 k (omega (arith, h.parts)) (omega (arith, h.parts)) all_parts
  all_total zero l Missing b = absurd (omega (arith, h.arrays.lives.some))
  all_total (suc k) l Missing b =
      ap (λ (y : Bound). add y (total (column_bound (sheet_of e ss fs ls rs ps)) (columns_from (length ss) ls rs ps 1 k) p)) (own 0 h.arrays.lives.some ∙ b)
      ∙ sym (missing_total job.parts (omega (arith, h.parts, h.arrays.lives.some)) b)

  -- ---- the terms: over the columns of the parts alone

  own_fee : (q : ℕ) → q < length ls → column_fee (sheet_of e ss fs ls rs ps) (column_of (lane_part (length ss) ls rs ps q)) p ≡ plain_part_fee job (get_or job.parts q no_part) p
  unfolding column_fee
  own_fee q l =
      let z = sym (h.part q l) in
      λ i. least_of_lem (pos (z i).life) (h.ends i) (last_change_lem (z i)) (offers (h.places i) (undecided_fees (h.fees i) p) p)

  columns_largest : (xs : List Part) (q k : ℕ) → length xs ≤ k → q + length xs ≡ length ls → PartsFrom xs q
      → largest (column_fee (sheet_of e ss fs ls rs ps)) (take (length xs) (columns_from (length ss) ls rs ps q k)) p ≡ largest (plain_part_fee job) xs p
  unfolding columns_from
  columns_largest [] q k g m f = refl
  columns_largest (x ∷ xs) q zero g m f = absurd (omega arith)
  columns_largest (x ∷ xs) q (suc k) g m f =
      ap₂ larger (own_fee q (omega arith) ∙ ap (λ (part : Part). plain_part_fee job part p) (sym (first_is x xs q f)))
      (columns_largest xs (suc q) k (omega arith) (omega arith) (rest_are x xs q f))

  all_largest : largest (column_fee (sheet_of e ss fs ls rs ps)) (take (length ls) (columns_from (length ss) ls rs ps 0 (fours_of_lem (length ls) * 4))) p ≡ largest (plain_part_fee job) job.parts p
  all_largest =
      ap (λ (n : ℕ). largest (column_fee (sheet_of e ss fs ls rs ps)) (take n (columns_from (length ss) ls rs ps 0 (fours_of_lem (length ls) * 4))) p) (sym h.parts)
      ∙ columns_largest job.parts 0 (fours_of_lem (length ls) * 4) (omega (arith, h.parts)) (omega (arith, h.parts)) all_parts

  -- the bound of the arrays' sheet at a node is the job's bound over its openings alone
  pub sheet_bound_lem : sheet_bound (sheet_of e ss fs ls rs ps) p ≡ plain_bound job p
  unfolding sheet_bound plain_bound
  sheet_bound_lem = ap₂ add (ap₂ add (ap (λ (l : List ℕ). Sum (sum_at l p)) h.fees) (all_total (fours_of_lem (length ls) * 4) (omega arith) begin refl)) all_largest
