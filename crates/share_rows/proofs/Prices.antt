-- What a lane bears for a change at an opening depends on what is decided there alone; and what is charged.
use Prim.Native.Nat.{ℕ, zero, suc, ◌+◌, ◌≤◌, ◌<◌}
use mathlib.Core.Path.{◌≡◌, refl, sym, ap, subst, ◌∙◌}
use mathlib.Core.Bool.{Bool, true, false, cond}
use mathlib.Core.List.{List, [], ◌∷◌, ◌++◌}
use native.Mathlib.Omega.{arith}
use native.Mathlib.Decide.{dec_lt}
use lib.Dec.{eqb}
use lib.ListN.{length, get_or}
use borrow.Author.Tests.{eqb-true, eqb-false}
use Rattle.branch.specs.Search.{snoc}
use Rattle.model.specs.Model.{Job, sum_at, table}
use Rattle.model.specs.Decisions.{Held}
use Rattle.model.proofs.Lists.{table_at}
use Rattle.model.proofs.Sums.{sum_same, sum_both, sum_one}
use Rattle.model.proofs.Fees.{sum_snoc}
use Rattle.shares.specs.Shares.{Shares, things, worth, charged_for, shared_prices}
use Rattle.shares.proofs.Exchange.{worth-length}
use Rattle.share_rows.specs.Stacked.{pays}

-- ---- lists of blocks

-- one block more leaves the blocks before it as they are
pub get_d_front : (bs : List (List Bool)) (b : List Bool) (k : ℕ) → k < length bs → get_or (bs ++ (b ∷ [])) k [] ≡ get_or bs k []
get_d_front [] b k h = absurd (omega arith)
get_d_front (d ∷ bs) b zero h = refl
get_d_front (d ∷ bs) b (suc k) h = get_d_front bs b k (omega arith)

-- the block added at the end stands behind all the others
pub get_d_last : (bs : List (List Bool)) (b : List Bool) → get_or (bs ++ (b ∷ [])) (length bs) [] ≡ b
get_d_last [] b = refl
get_d_last (d ∷ bs) b = get_d_last bs b

-- past the last block nothing is decided
pub get_d_past : (bs : List (List Bool)) (k : ℕ) → length bs ≤ k → get_or bs k [] ≡ []
get_d_past [] k h = refl
get_d_past (d ∷ bs) zero h = absurd (omega arith)
get_d_past (d ∷ bs) (suc k) h = get_d_past bs k (omega arith)

table_past : (f : ℕ → ℕ) (n k : ℕ) → n ≤ k → get_or (table f n) k 0 ≡ 0
unfolding table
table_past f zero k h = refl
table_past f (suc n) zero h = absurd (omega arith)
table_past f (suc n) (suc k) h = table_past (λ i. f (suc i)) n k (omega arith)

-- ---- prices

module _ (job : Job) (shares : Shares) (q : ℕ) (held : Held) where
  -- a part's shared price at an opening is its price and what it owes there by the opening's block
  pub price_at : (bs : List (List Bool)) (k : ℕ) → k < length job.openings → get_or (shared_prices job shares q held bs) k 0 ≡ pays job shares q held k (get_or bs k [])
  price_at bs k h = table_at (λ k. pays job shares q held k (get_or bs k [])) (length job.openings) k 0 h

  -- the same is decided at an opening
  pub price_same : (bs ds : List (List Bool)) (k : ℕ) → get_or bs k [] ≡ get_or ds k [] → get_or (shared_prices job shares q held bs) k 0 ≡ get_or (shared_prices job shares q held ds) k 0
  price_same bs ds k e = go (dec_lt k (length job.openings))
    where
      go : Dec (k < length job.openings) → get_or (shared_prices job shares q held bs) k 0 ≡ get_or (shared_prices job shares q held ds) k 0
      go (yes h) = price_at bs k h ∙ ap (pays job shares q held k) e ∙ sym (price_at ds k h)
      go (no h) =
          let z : length job.openings ≤ k = omega arith in
          table_past (λ k. pays job shares q held k (get_or bs k [])) (length job.openings) k z ∙ sym (table_past (λ k. pays job shares q held k (get_or ds k [])) (length job.openings) k z)

-- ---- what is charged

module _ (job : Job) (shares : Shares) where
  -- one block more
  pub charged_last : (bs : List (List Bool)) (b : List Bool) → length bs < length job.openings → charged_for job (bs ++ (b ∷ [])) ≡ charged_for job bs + sum_at (worth job (length bs)) b
  unfolding sum_at
  charged_last bs b h =
      let n = length job.openings in
      let v = sum_at (worth job (length bs)) b in
      let one = sum_one (length bs) v n 0 (omega arith) (omega arith) in
      let both = sum_both n 0 (λ j. sum_at (worth job j) (get_or bs j [])) (λ j. cond (eqb (length bs) j) v 0) in
      let same = sum_same n 0 (λ j. sum_at (worth job j) (get_or (bs ++ (b ∷ [])) j [])) (λ j. sum_at (worth job j) (get_or bs j []) + cond (eqb (length bs) j) v 0) (λ j _ _. each j (eqb (length bs) j) refl) in
      omega (arith, one, both, same)
    where
      other : (bs : List (List Bool)) (j : ℕ) → (length bs ≡ j → ⊥) → get_or (bs ++ (b ∷ [])) j [] ≡ get_or bs j []
      other [] zero d = absurd (d refl)
      other [] (suc j) d = refl
      other (c ∷ bs) zero d = refl
      other (c ∷ bs) (suc j) d = other bs j (λ e. d (ap suc e))

      each : (j : ℕ) (a : Bool) → eqb (length bs) j ≡ a → sum_at (worth job j) (get_or (bs ++ (b ∷ [])) j []) ≡ sum_at (worth job j) (get_or bs j []) + cond a (sum_at (worth job (length bs)) b) 0
      each j true e =
          let z : length bs ≡ j = eqb-true (length bs) j e in
          let s : sum_at (worth job (length bs)) (get_or (bs ++ (b ∷ [])) (length bs) []) ≡ sum_at (worth job (length bs)) (get_or bs (length bs) []) + sum_at (worth job (length bs)) b =
          omega (arith, ap (sum_at (worth job (length bs))) (get_d_last bs b), ap (sum_at (worth job (length bs))) (get_d_past bs (length bs) (omega arith))) in
          subst (λ (i : ℕ). sum_at (worth job i) (get_or (bs ++ (b ∷ [])) i []) ≡ sum_at (worth job i) (get_or bs i []) + sum_at (worth job (length bs)) b) z s
      each j false e = ap (sum_at (worth job j)) (other bs j (eqb-false (length bs) j e)) ∙ omega arith

  -- one decision more at the last opening
  pub charged_more : (bs : List (List Bool)) (b : List Bool) (x : Bool) → length bs < length job.openings → length b < things job
      → charged_for job (bs ++ (snoc b x ∷ [])) ≡ charged_for job (bs ++ (b ∷ [])) + cond x (get_or (worth job (length bs)) (length b) 0) 0
  charged_more bs b x h l =
      let s = sum_snoc (worth job (length bs)) b x (omega (arith, worth-length job shares (length bs))) in
      omega (arith, charged_last bs (snoc b x) h, charged_last bs b h, s)
