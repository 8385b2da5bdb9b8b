-- The numbers of the parts' records, laid out one record after the other: by one record more.
use Prim.Native.Nat.{ℕ, ◌+◌, ◌*◌, ◌≤◌, ◌<◌}
use mathlib.Core.Path.{◌≡◌, refl, sym, ap, ◌∙◌}
use mathlib.Core.List.{List, map}
use native.Mathlib.Omega.{arith}
use native.Mathlib.Decide.{dec_lt}
use lib.ListN.{length, get_or, take, replicate, get_or-eq_default}
use lib.Seq.{get_or-take, length-take-le, ext_get_or}
use Rattle.model.specs.Model as model
use Rattle.model.specs.Verdict.{no_part}
use Rattle.model.specs.Model.{table}
use Rattle.model.proofs.Lists.{table-length, table_at}
use Rattle.jobs.specs.declared.Part.{Part}
use Rattle.jobs.specs.declared.Job.{Job}
use Rattle.jobs.specs.Views.{blank_part_lem, part_of_lem, job_of}
use Rattle.jobs.proofs.Jobs.{part_count, part_at_lem}
use Rattle.base.proofs.Lists.{map_at}
use Rattle.held_places.specs.Arrays.{price_stride, price_size}
use Rattle.base.specs.Filled.{FilledBy}
use Rattle.job_numbers.specs.Laid.{Laid}
use Rattle.base.proofs.Bools.{blank}

-- ---- one number of each

-- the first n of a list are another list, where that has n entries and each is the same
pub taken_is : (n : ℕ) (ys zs : List ℕ) → n ≤ length ys → length zs ≡ n → ((i : ℕ) → i < n → get_or ys i 0 ≡ get_or zs i 0) → take n ys ≡ zs
taken_is n ys zs h e f =
    let size = length-take-le n ys h in
    ext_get_or 0 (take n ys) zs (size ∙ sym e) (λ i l. get_or-take n ys i 0 (omega (arith, size)) ∙ f i (omega (arith, size)))

-- one number of the part at a place that a job counts, among those of all its parts
pub number_at : (f : model.Part → ℕ) (j : Job) (i : ℕ) → i < j.part_count → get_or (map f (job_of j).parts) i 0 ≡ f (part_of_lem j.opening_count (get_or j.parts i blank_part_lem))
number_at f j i h = map_at f (job_of j).parts i no_part 0 (omega (arith, part_count j)) ∙ ap f (part_at_lem j i h)

-- ---- rows of prices

module _ (row : ℕ → List ℕ) where
  -- an array of zeros holds the prices of no part
  pub laid_none : Laid 0 row (replicate price_size 0)
  laid_none = record { size = refl; price = λ q i h l. absurd (omega arith); rest = λ x h. blank 0 price_size x }

  module _ (q n : ℕ) (few : n ≤ price_stride) (long : length (row q) ≡ n) (flat next : List ℕ) (laid : Laid q row flat) where
    abbrev base : ℕ
    base = q * price_stride

    -- row q is written behind those before it
    pub laid_more : (f : ℕ → ℕ) → ((i : ℕ) → i < n → f i ≡ get_or (row q) i 0) → FilledBy (λ (i : ℕ). base + i) f n flat next → Laid (q + 1) row next
    laid_more f is new =
        record {
          size = new.size ∙ laid.size;
          price = λ r i l h. go r i l h (dec_lt r q);
          rest = λ x h. new.rest x (λ y s e. omega (arith, e)) ∙ laid.rest x (omega arith);
        }
      where
        here : (i : ℕ) → i < price_stride → Dec (i < n) → get_or next (base + i) 0 ≡ get_or (row q) i 0
        here i h (yes l) = new.done i l ∙ is i l
        here i h (no l) = new.rest (base + i) (λ y s e. omega (arith, l, e)) ∙ laid.rest (base + i) (omega arith) ∙ sym (get_or-eq_default (row q) 0 {n = i} (omega (arith, l, long)))

        go : (r i : ℕ) → r < q + 1 → i < price_stride → Dec (r < q) → get_or next (r * price_stride + i) 0 ≡ get_or (row r) i 0
        go r i l h (yes b) = new.rest (r * price_stride + i) (λ y s e. omega (arith, b, e)) ∙ laid.price r i b h
        go r i l h (no b) = let z : r ≡ q = omega (arith, l, b) in rw z (here i h (dec_lt i n))

  -- rows that are the same
  pub laid_same : (other : ℕ → List ℕ) (m : ℕ) (flat : List ℕ) → ((q : ℕ) → q < m → row q ≡ other q) → Laid m row flat → Laid m other flat
  laid_same other m flat e laid = record { size = laid.size; price = λ q i h l. laid.price q i h l ∙ ap (λ (ns : List ℕ). get_or ns i 0) (e q h); rest = laid.rest }

-- the prices of the record at place q, n of them, with what is added to each
abbrev pub record_row : ℕ → List Part → List ℕ → ℕ → List ℕ
record_row n parts added q = table (λ k. get_or (part_of_lem n (get_or parts q blank_part_lem)).prices k 0 + get_or added q 0) n

module _ (n : ℕ) (parts : List Part) (added : List ℕ) (q : ℕ) where
  pub record_row_lem : length (record_row n parts added q) ≡ n
  record_row_lem = table-length (λ k. get_or (part_of_lem n (get_or parts q blank_part_lem)).prices k 0 + get_or added q 0) n

  pub record_price : (p : Part) → p ≡ get_or parts q blank_part_lem → (i : ℕ) → i < n → get_or (take n p.prices) i 0 + get_or added q 0 ≡ get_or (record_row n parts added q) i 0
  record_price p e i h =
      ap (λ (r : Part). get_or (take n r.prices) i 0 + get_or added q 0) e ∙ sym (table_at (λ k. get_or (part_of_lem n (get_or parts q blank_part_lem)).prices k 0 + get_or added q 0) n i 0 h)
