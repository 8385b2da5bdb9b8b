-- The rows of the count's table: the last one is all 1, and each of the others is made from the next. By one unfolding of the count.
use Prim.Native.Nat.{ℕ, suc, ◌+◌, ◌-◌, ◌≤◌, ◌<◌}
use mathlib.Core.Path.{◌≡◌, refl, sym, ap, ◌∙◌}
use mathlib.Core.Bool.{Bool}
use mathlib.Core.List.{List}
use native.Mathlib.Omega.{arith}
use native.Mathlib.Numerals.{add-one}
use lib.ListN.{length, get_or}
use Rattle.model.specs.Limits.{most_count}
use Rattle.longest_walk.specs.Count.{count_from}
use Rattle.longest_walk.proofs.Entries.{count_most}
use Rattle.base.specs.Filled.{FilledBy}
use Rattle.node_counts.specs.Row.{noted, Row}

module _ (test : ℕ → ℕ → Bool) (n : ℕ) where
  -- behind the last opening
  pub row_last : (row : List ℕ) → n + 1 ≤ length row → ((m : ℕ) → m ≤ n → get_or row m 0 ≡ 1) → Row test n n row
  unfolding count_from
  row_last row s h = record { size = s; at = λ m l. let z : n - n ≡ 0 = omega arith in h m l ∙ ap (λ (k : ℕ). count_from test k n m) (sym z) }

  -- one opening before
  pub row_next : (j : ℕ) (row next : List ℕ) → j < n → Row test n (j + 1) row → FilledBy (λ (m : ℕ). m) (noted test j row) (j + 1) row next → Row test n j next
  unfolding count_from
  row_next j row next l r f = record { size = omega (arith, f.size, r.size); at = λ m h. f.done m (omega arith) ∙ step m h }
    where
      step : (m : ℕ) → m ≤ j → noted test j row m ≡ count_from test (n - j) j m
      step m h =
          let z : n - j ≡ suc (n - (j + 1)) = omega arith in
          rw (r.at m (omega arith), r.at (j + 1) (omega arith), z, add-one j) refl

  -- no number is above the cap
  pub row_most : (j : ℕ) (row : List ℕ) → Row test n j row → (m : ℕ) → m ≤ j → get_or row m 0 ≤ most_count
  row_most j row r m h = omega (arith, r.at m h, count_most test (n - j) j m)

  -- the first number of the first row
  pub row_first : (j : ℕ) (row : List ℕ) → j ≡ 0 → Row test n j row → (get_or row 0 0 ≡ count_from test n 0 0) × (get_or row 0 0 ≤ most_count)
  row_first j row e r = let z : n - j ≡ n = omega (arith, e) in (r.at 0 (omega arith) ∙ (λ i. count_from test (z i) (e i) 0), row_most j row r 0 (omega arith))
