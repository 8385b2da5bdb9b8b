-- A part's prices as the writer takes them: the marks and low ends of some prices state those prices (`paired_is`, `paired_marked`), and the prices at the openings left, in a list or by a rule, are quoted by their low ends (`quotes_left`). By the prices, one after the other.
use Rattle.std.specs.Prelude.{Option, Some, None}
use Rattle.std.proofs.lemmas.List.{drop-take}
use Prim.Native.Nat.{ℕ, zero, suc, ◌+◌, ◌-◌, ◌≤◌}
use mathlib.Core.Path.{◌≡◌, refl, sym, ap, ◌∙◌}
use mathlib.Core.List.{List, [], ◌∷◌, map}
use native.Mathlib.Omega.{arith}
use lib.ListN.{length, length-map, take, drop, replicate, length-drop}
use lib.Seq.{length-take-le}
use Rattle.lines.specs.Text.{texts}
use Rattle.base.specs.Each.{All}
use Rattle.quotes.specs.Grammar.{Quote, single, pair}
use Rattle.quotes.specs.Views.{quote_of, quotes_of}
use Rattle.price_rules.specs.Grammar.{meant_prices}
use Rattle.price_rules.specs.declared.Rule.{Rule}
use Rattle.part_lines.specs.Views.{prices_told}
use Rattle.form_facts.specs.Facts.{quotes_from, sum_of, Marked}
use Rattle.carry_texts.specs.Carried.{quoted}
use Rattle.carried_writing.specs.Lists.{pair_mark, low_in, lows_unless}

-- ---- marks and low ends

-- prices by marks and their low ends are the prices with these low ends
pub paired_is : (ls : List (Option ℕ)) (hs : List ℕ) → length hs ≡ length ls → quotes_from (map pair_mark ls) (texts low_in ls) hs ≡ quotes_of ls hs
unfolding quotes_from quotes_of quote_of
paired_is [] [] e = refl
paired_is [] (h ∷ hs) e = absurd (omega arith)
paired_is (l ∷ ls) [] e = absurd (omega arith)
paired_is (None ∷ ls) (h ∷ hs) e = ap (λ (qs : List Quote). single h ∷ qs) (paired_is ls hs (omega arith))
paired_is (Some l ∷ ls) (h ∷ hs) e = ap (λ (qs : List Quote). pair l h ∷ qs) (paired_is ls hs (omega arith))

marks_small : (ls : List (Option ℕ)) → All (λ (z : ℕ). z ≤ 1) (map pair_mark ls)
marks_small [] = tt
marks_small (None ∷ ls) = (omega arith, marks_small ls)
marks_small (Some l ∷ ls) = (omega arith, marks_small ls)

ends_counted : (ls : List (Option ℕ)) → sum_of (map pair_mark ls) ≡ length (texts low_in ls)
ends_counted [] = refl
ends_counted (None ∷ ls) = omega (arith, ends_counted ls)
ends_counted (Some l ∷ ls) = omega (arith, ends_counted ls)

-- the marks are one a price, 0 or 1, and as many 1 as there are low ends
pub paired_marked : (ls : List (Option ℕ)) (hs : List ℕ) → length hs ≡ length ls → Marked (map pair_mark ls) (texts low_in ls) hs
paired_marked ls hs e = record { size = omega (arith, length-map ls pair_mark); marks = marks_small ls; lows = omega (arith, ends_counted ls) }

-- the low ends of some prices are no more than the prices
pub ends_few : (ls : List (Option ℕ)) → length (texts low_in ls) ≤ length ls
ends_few [] = omega arith
ends_few (None ∷ ls) = omega (arith, ends_few ls)
ends_few (Some l ∷ ls) = omega (arith, ends_few ls)

-- ---- prices quoted by their low ends

-- without low ends all are single
none_single : (m : ℕ) (hs : List ℕ) → quotes_of (replicate m None) hs ≡ map single hs
unfolding quotes_of quote_of
none_single m [] = refl
none_single zero (h ∷ hs) = ap (λ (qs : List Quote). single h ∷ qs) (none_single zero hs)
none_single (suc m) (h ∷ hs) = ap (λ (qs : List Quote). single h ∷ qs) (none_single m hs)

-- from a place on
quotes_drop : (k : ℕ) (ls : List (Option ℕ)) (hs : List ℕ) → drop k (quotes_of ls hs) ≡ quotes_of (drop k ls) (drop k hs)
unfolding quotes_of
quotes_drop zero ls hs = refl
quotes_drop (suc k) ls [] = refl
quotes_drop (suc k) ls (h ∷ hs) = quotes_drop k (drop 1 ls) hs ∙ ap (λ (ms : List (Option ℕ)). quotes_of ms (drop k hs)) (behind ls k)
  where
    behind : (ls : List (Option ℕ)) (k : ℕ) → drop k (drop 1 ls) ≡ drop (suc k) ls
    behind [] zero = refl
    behind [] (suc k) = refl
    behind (l ∷ ls) k = refl

-- of low ends only the first count, as many as there are prices
quotes_take : (m : ℕ) (ls : List (Option ℕ)) (hs : List ℕ) → length hs ≤ m → quotes_of (take m ls) hs ≡ quotes_of ls hs
unfolding quotes_of
quotes_take m ls [] h = refl
quotes_take zero ls (x ∷ hs) h = absurd (omega arith)
quotes_take (suc m) [] (x ∷ hs) h = refl
quotes_take (suc m) (l ∷ ls) (x ∷ hs) h = ap (λ (qs : List Quote). quote_of l x ∷ qs) (quotes_take m ls hs (omega arith))

-- all prices of a part, in a list or by a rule
quoted_is : (n : ℕ) (o : Option Rule) (ls : List (Option ℕ)) (ps : List ℕ) → meant_prices n (prices_told o (quotes_of ls ps)) ≡ ps → quoted n (prices_told o (quotes_of ls ps)) ≡ quotes_of (lows_unless o ls) ps
quoted_is n None ls ps e = refl
quoted_is n (Some r) ls ps e = ap (map single) e ∙ sym (none_single 64 ps)

-- from a place on among the first n, as code takes it
pub drop_taken : (k n : ℕ) (xs : List ℕ) → k ≤ n → drop k (take n xs) ≡ take (n - k) (drop k xs)
drop_taken k n xs h = let e : n ≡ k + (n - k) = omega arith in ap (λ (m : ℕ). drop k (take m xs)) e ∙ drop-take k (n - k) xs

-- those at the openings left when k of n are past, of n or more low ends and prices that an array holds
pub quotes_left : (n k : ℕ) (o : Option Rule) (ls : List (Option ℕ)) (xs : List ℕ) → k ≤ n → n ≤ length xs
    → meant_prices n (prices_told o (quotes_of ls (take n xs))) ≡ take n xs
    → quotes_of (take (n - k) (drop k (lows_unless o ls))) (take (n - k) (drop k xs)) ≡ drop k (quoted n (prices_told o (quotes_of ls (take n xs))))
quotes_left n k o ls xs h few means =
    let size : length (take (n - k) (drop k xs)) ≤ n - k = omega (arith, length-take-le (n - k) (drop k xs) (omega (arith, length-drop k xs))) in
    quotes_take (n - k) (drop k (lows_unless o ls)) (take (n - k) (drop k xs)) size
    ∙ ap (quotes_of (drop k (lows_unless o ls))) (sym (drop_taken k n xs h))
    ∙ sym (quotes_drop k (lows_unless o ls) (take n xs))
    ∙ ap (drop k) (sym (quoted_is n o ls (take n xs) means))
