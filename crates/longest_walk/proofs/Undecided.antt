-- The yes and undecided openings of a node, by their positions: what one decision more does to them, where the last yes stands, and what one change less does to a part that is
-- changed at all of them. By recursion over the openings.
use mathlib.Core.Path.{◌≡◌, refl, sym, ap, ◌∙◌}
use mathlib.Core.Bool.{Bool, true, false, ◌&&◌, and-eq-true_iff}
use mathlib.Core.List.{List, [], ◌∷◌, ◌++◌}
use Prim.Native.Nat.{ℕ, zero, suc, ◌<◌}
use native.Mathlib.Omega.{arith}
use lib.ListN.{length, get_or, drop}
use lib.IntN.{ℤ}
use Rattle.branch.specs.Search.{snoc}
use Rattle.model.specs.Model.{within, kept, select}
use Rattle.model.specs.Verdict.{last_of, next_of}
use Rattle.model.specs.LastYes.{last_yes, mark_in}
use Rattle.base.proofs.Bools.{after_one}
use Rattle.model.proofs.LastYes.{mark_no, mark_yes}
use Rattle.model.proofs.MoreChanges.{select_empty}

-- ---- the yes and undecided openings of a node, of n openings

unfoldable pub open_to : ℕ → List Bool → List Bool
open_to zero p = []
open_to (suc n) p = get_or p 0 true ∷ open_to n (drop 1 p)

-- the openings still open are as many marks as there are openings
pub open-size : (n : ℕ) (p : List Bool) → length (open_to n p) ≡ n
unfolding open_to
open-size zero p = refl
open-size (suc n) p = ap suc (open-size n (drop 1 p))

-- an opening is open where it was decided with a stop, or is not decided yet
pub open_at : (n : ℕ) (p : List Bool) (i : ℕ) → i < n → get_or (open_to n p) i false ≡ get_or p i true
unfolding open_to
open_at zero p i h = absurd (omega arith)
open_at (suc n) p zero h = refl
open_at (suc n) p (suc i) h = open_at n (drop 1 p) i (omega arith) ∙ after_one p i true

-- their positions: those of its yes openings, and then all that are undecided
open-all : (ss : List ℤ) → select ss (open_to (length ss) []) ≡ ss
unfolding open_to select
open-all [] = refl
open-all (s ∷ ss) = ap (λ (l : List ℤ). s ∷ l) (open-all ss)

-- what is open is the chosen of the decided, and all of the undecided
pub open-split : (ss : List ℤ) (p : List Bool) → select ss (open_to (length ss) p) ≡ select ss p ++ drop (length p) ss
unfolding open_to select
open-split [] [] = refl
open-split [] (x ∷ p) = refl
open-split (s ∷ ss) [] = ap (λ (l : List ℤ). s ∷ l) (open-all ss)
open-split (s ∷ ss) (false ∷ p) = open-split ss p
open-split (s ∷ ss) (true ∷ p) = ap (λ (l : List ℤ). s ∷ l) (open-split ss p)

-- after one decision more
pub yes_same : (ss : List ℤ) (p : List Bool) → length p < length ss → select ss (snoc p true) ++ drop (length (snoc p true)) ss ≡ select ss p ++ drop (length p) ss
unfolding select
yes_same [] p h = absurd (omega arith)
yes_same (s ∷ ss) [] h = ap (λ (l : List ℤ). s ∷ (l ++ ss)) (select_empty ss)
yes_same (s ∷ ss) (false ∷ p) h = yes_same ss p (omega arith)
yes_same (s ∷ ss) (true ∷ p) h = ap (λ (l : List ℤ). s ∷ l) (yes_same ss p (omega arith))

-- `rest` without its first
pub record Parted (rest : List ℤ) (k : ℕ) (ss : List ℤ) : Type 0 where
  -- the first of the positions that are left
  pub first : ℤ
  -- what is left is its first position and then the positions from place k on
  pub split : rest ≡ first ∷ drop k ss

-- what is left of a list past j, where there is more, has a first and the rest
pub parted : (ss : List ℤ) (j : ℕ) → j < length ss → Parted (drop j ss) (suc j) ss
parted [] j h = absurd (omega arith)
parted (s ∷ ss) zero h = record { first = s; split = refl }
parted (s ∷ ss) (suc j) h = let r = parted ss j (omega arith) in record { first = r.first; split = r.split }

-- a no at the next opening takes that opening's position out of the yes and undecided ones
pub no_less : (ss : List ℤ) (p : List Bool) → select ss (snoc p false) ++ drop (length (snoc p false)) ss ≡ select ss p ++ drop (suc (length p)) ss
unfolding select
no_less [] [] = refl
no_less [] (x ∷ p) = refl
no_less (s ∷ ss) [] = ap (λ (l : List ℤ). l ++ ss) (select_empty ss)
no_less (s ∷ ss) (false ∷ p) = no_less ss p
no_less (s ∷ ss) (true ∷ p) = ap (λ (l : List ℤ). s ∷ l) (no_less ss p)

-- ---- the last yes

-- a part that is changed at every yes was last changed there
pub last_is : (prev : ℤ) (ss : List ℤ) (p : List Bool) → length p < suc (length ss) → last_of prev (select ss p) ≡ mark_in prev ss (last_yes p)
unfolding select last_yes
last_is prev [] [] h = refl
last_is prev [] (x ∷ p) h = absurd (omega arith)
last_is prev (s ∷ ss) [] h = refl
last_is prev (s ∷ ss) (false ∷ p) h = last_is prev ss p (omega arith) ∙ sym (mark_no prev s ss (last_yes p))
last_is prev (s ∷ ss) (true ∷ p) h = last_is s ss p (omega arith) ∙ sym (mark_yes prev s ss (last_yes p))

-- the first position past k openings is opening k's, or the end where none is left
pub next_is : (end : ℤ) (ss : List ℤ) (k : ℕ) → next_of end (drop k ss) ≡ get_or ss k end
next_is end [] zero = refl
next_is end [] (suc k) = refl
next_is end (s ∷ ss) zero = refl
next_is end (s ∷ ss) (suc k) = next_is end ss k

-- ---- one change less

-- where changes keep a part, one change less keeps it exactly if the gap there is within the life
pub without : (life end prev s : ℤ) (xs zs : List ℤ) → kept life end prev (xs ++ (s ∷ zs)) ≡ true → kept life end prev (xs ++ zs) ≡ within life (last_of prev xs) (next_of end zs)
unfolding kept
without life end prev s [] [] k = refl
without life end prev s [] (z ∷ zs) k =
    let d = (and-eq-true_iff (within life prev s) (within life s z && kept life end z zs)).0 k in
    let e = (and-eq-true_iff (within life s z) (kept life end z zs)).0 d.1 in
    rw e.1 (go (within life prev z))
  where
    go : (a : Bool) → (a && true) ≡ a
    go true = refl
    go false = refl
without life end prev s (x ∷ xs) zs k =
    let d = (and-eq-true_iff (within life prev x) (kept life end x (xs ++ (s ∷ zs)))).0 k in
    rw d.0 (without life end x s xs zs d.1)
