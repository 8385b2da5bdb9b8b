-- Prices in the code's arrays: one more (`quotes_more`), and their ends (`highs_are`, `lows_are`). By the prices, one after the other.
use Rattle.std.specs.Prelude.{Option, Some, None}
use Prim.Native.Nat.{ℕ, zero, suc, ◌+◌, ◌<◌}
use mathlib.Core.Path.{◌≡◌, refl, sym, ap, ap₂, ◌∙◌}
use mathlib.Core.List.{List, [], ◌∷◌, ◌++◌, map}
use native.Mathlib.Omega.{arith}
use lib.ListN.{length, get_or, take, drop, set, length-take}
use Rattle.base.proofs.Arrays.{take_more}
use Rattle.quotes.specs.Grammar.{Quote, high_end, low_end}
use Rattle.quotes.specs.Views.{quote_of, quotes_of, low_of, lows_of}

-- ---- one price more

-- only the low ends of the prices that are there count
quotes_cut : (n : ℕ) (ls : List (Option ℕ)) (hs : List ℕ) → quotes_of (take n ls) (take n hs) ≡ quotes_of ls (take n hs)
unfolding quotes_of
quotes_cut zero ls hs = refl
quotes_cut (suc n) ls [] = refl
quotes_cut (suc n) [] (h ∷ hs) = refl
quotes_cut (suc n) (l ∷ ls) (h ∷ hs) = ap (λ (qs : List Quote). quote_of l h ∷ qs) (quotes_cut n ls hs)

-- a price behind as many low ends as high ends is the last of the prices
quotes_then : (ls : List (Option ℕ)) (hs : List ℕ) (l : Option ℕ) (h : ℕ) → length ls ≡ length hs → quotes_of (ls ++ l ∷ []) (hs ++ h ∷ []) ≡ quotes_of ls hs ++ quote_of l h ∷ []
unfolding quotes_of
quotes_then [] [] l h e = refl
quotes_then (m ∷ ls) [] l h e = absurd (omega arith)
quotes_then [] (k ∷ hs) l h e = absurd (omega arith)
quotes_then (m ∷ ls) (k ∷ hs) l h e = ap (λ (qs : List Quote). quote_of m k ∷ qs) (quotes_then ls hs l h (omega arith))

-- stored in the arrays
pub quotes_more : (i : ℕ) (ls : List (Option ℕ)) (hs : List ℕ) (l : Option ℕ) (h : ℕ) → i < length ls → i < length hs
    → quotes_of (set ls i l) (take (i + 1) (set hs i h)) ≡ quotes_of ls (take i hs) ++ quote_of l h ∷ []
quotes_more i ls hs l h f g =
    sym (quotes_cut (i + 1) (set ls i l) (set hs i h))
    ∙ rw (take_more i ls l f, take_more i hs h g)
    (quotes_then (take i ls) (take i hs) l h (omega (arith, length-take i ls, length-take i hs))
    ∙ ap (λ (qs : List Quote). qs ++ quote_of l h ∷ []) (quotes_cut i ls hs))

-- ---- their ends

-- the high end of a price that is told
high_is : (l : Option ℕ) (h : ℕ) → high_end (quote_of l h) ≡ h
unfolding quote_of
high_is (Some l) h = refl
high_is None h = refl

-- its low end
low_is : (l : Option ℕ) (h : ℕ) → low_end (quote_of l h) ≡ low_of l h
unfolding quote_of
low_is (Some l) h = refl
low_is None h = refl

-- the high ends of prices are those in the array
pub highs_are : (ls : List (Option ℕ)) (hs : List ℕ) → map high_end (quotes_of ls hs) ≡ hs
unfolding quotes_of
highs_are ls [] = refl
highs_are ls (h ∷ hs) = ap₂ (λ (x : ℕ) (xs : List ℕ). x ∷ xs) (high_is (get_or ls 0 None) h) (highs_are (drop 1 ls) hs)

-- and the low ends those of the two arrays
pub lows_are : (ls : List (Option ℕ)) (hs : List ℕ) → map low_end (quotes_of ls hs) ≡ lows_of ls hs
unfolding quotes_of lows_of
lows_are ls [] = refl
lows_are ls (h ∷ hs) = ap₂ (λ (x : ℕ) (xs : List ℕ). x ∷ xs) (low_is (get_or ls 0 None) h) (lows_are (drop 1 ls) hs)
