-- Prices at their low ends: one more (`lows_next`); and that a low end is there if a price is a pair (`pair_there`), as the search finds it (`any_one`). By the prices, one after the other.
use Rattle.std.specs.Prelude.{Option, Some, None, is_some}
use Rattle.std.specs.List.{list_any}
use Prim.Native.Nat.{ℕ, zero, suc, ◌+◌, ◌<◌}
use mathlib.Core.Path.{◌≡◌, refl, ap, ◌∙◌}
use mathlib.Core.Bool.{Bool, false, ◌||◌}
use mathlib.Core.List.{List, [], ◌∷◌, ◌++◌}
use native.Mathlib.Omega.{arith}
use native.Mathlib.Numerals.{add-one}
use lib.ListN.{length, get_or, take, drop}
use Rattle.quotes.specs.Grammar.{any_pair}
use Rattle.quotes.specs.Views.{quote_of, quotes_of, low_of, lows_of}
use Rattle.low_ends.specs.Marks.{one_of}
use Rattle.base.proofs.Bools.{after_one}

lows_suc : (k : ℕ) (ls : List (Option ℕ)) (hs : List ℕ) → k < length hs → lows_of ls (take (suc k) hs) ≡ lows_of ls (take k hs) ++ low_of (get_or ls k None) (get_or hs k 0) ∷ []
unfolding lows_of
lows_suc k ls [] h = absurd (omega arith)
lows_suc zero ls (x ∷ hs) h = refl
lows_suc (suc k) ls (x ∷ hs) h =
    ap (λ (xs : List ℕ). low_of (get_or ls 0 None) x ∷ xs)
    (lows_suc k (drop 1 ls) hs (omega arith)
    ∙ ap (λ (l : Option ℕ). lows_of (drop 1 ls) (take k hs) ++ low_of l (get_or hs k 0) ∷ []) (after_one ls k None))

-- one price more at its low end
pub lows_next : (k : ℕ) (ls : List (Option ℕ)) (hs : List ℕ) → k < length hs → lows_of ls (take (k + 1) hs) ≡ lows_of ls (take k hs) ++ low_of (get_or ls k None) (get_or hs k 0) ∷ []
lows_next k ls hs h = ap (λ (i : ℕ). lows_of ls (take i hs)) (add-one k) ∙ lows_suc k ls hs h

-- ---- low ends that are there

-- a price is a pair exactly where its low end is there
pub pair_there : (ls : List (Option ℕ)) (hs : List ℕ) → any_pair (quotes_of ls hs) ≡ one_of (take (length hs) ls)
unfolding any_pair quotes_of one_of quote_of
pair_there [] [] = refl
pair_there (l ∷ ls) [] = refl
pair_there [] (h ∷ hs) = pair_there [] hs ∙ none (length hs)
  where
    none : (n : ℕ) → one_of (take n []) ≡ false
    none zero = refl
    none (suc n) = refl
pair_there (Some l ∷ ls) (h ∷ hs) = refl
pair_there (None ∷ ls) (h ∷ hs) = pair_there ls hs

-- one of them is there exactly where some low end is
pub any_one : (ls : List (Option ℕ)) → list_any is_some ls ≡ one_of ls
unfolding one_of
any_one [] = refl
any_one (l ∷ ls) = ap (λ (b : Bool). is_some l || b) (any_one ls)
