-- Laws of a rule's prices: each is the clause's integer (`rule_is`) and a price (`rule_valid`); what the base has dropped to at the next opening (`base_next`); prices mean one for each opening, and each is a price
-- (`meant_length`, `meant_valid`), so at the low ends too (`low_length`, `low_valid`, `low_to_high`), and written out they mean the same (`written_out`). By the number of openings.
use Prim.Native.Nat.{ℕ, zero, suc, ◌+◌, ◌-◌, ◌*◌, ◌≤◌, max}
use mathlib.Core.Path.{◌≡◌, refl, ap, ◌∙◌}
use mathlib.Core.Bool.{Bool, true, false, cond}
use mathlib.Core.List.{List, [], ◌∷◌, ◌++◌, map}
use native.Mathlib.Omega.{arith}
use native.Mathlib.Numerals.{add-one}
use native.Mathlib.Nat.{suc-mul}
use lib.ListN.{length, length-append, length-map}
use lib.IntN.{ℤ, pos, negsuc, ◌-ℤ◌, ◌*ℤ◌}
use lib.Signed.{le_z}
use borrow.Author.Tests.{leb-true, leb-false}
use Rattle.base.specs.Joined.{joined}
use Rattle.base.proofs.Integers.{up, down, difference}
use Rattle.base.specs.Each.{All}
use Rattle.jobs.specs.Valid.{ValidPrice}
use Rattle.price_rules.specs.Rule.{Rule, rule_price, rule_prices_lem, larger, stated_price}
use Rattle.model.specs.Model.{Each}
use Rattle.quotes.specs.Grammar.{Quote, single, high_end, low_end, any_pair}
use Rattle.quotes.specs.Valid.{ValidQuote}
use Rattle.price_rules.specs.Grammar.{Prices, by_list, by_rule_lem, meant_prices, low_prices_lem, banded_prices, written_out_lem}
use Rattle.price_rules.specs.Valid.{ValidRule, ValidPrices}

-- the larger of a difference z = a − b and a number, by whether the difference is below 0
larger_is : (a b m : ℕ) (z : ℤ) → up z + b ≡ down z + a → pos (max (a - b) m) ≡ larger z (pos m)
larger_is a b m (pos n) e = go (le_z (pos n) (pos m)) refl
  where
    go : (t : Bool) → le_z (pos n) (pos m) ≡ t → pos (max (a - b) m) ≡ cond t (pos m) (pos n)
    go true q = ap pos (let y : max (a - b) m ≡ m = omega (arith, e, leb-true n m q) in y)
    go false q = ap pos (let y : max (a - b) m ≡ n = omega (arith, e, leb-false n m q) in y)
larger_is a b m (negsuc n) e = ap pos (let y : max (a - b) m ≡ m = omega (arith, e) in y)

-- E8.2. the price is the larger of base minus k times drop, as an integer, and least
pub rule_is : (r : Rule) (k : ℕ) → pos (rule_price r k) ≡ stated_price r k
rule_is r k = larger_is r.base (k * r.drop) r.least (pos r.base -ℤ pos k *ℤ pos r.drop) (let e = difference (pos r.base) (pos (k * r.drop)) in omega (arith, e))

-- the price of a valid rule is a valid price at each opening
pub rule_valid : (r : Rule) (k : ℕ) → ValidRule r → ValidPrice (rule_price r k)
rule_valid r k v = (omega (arith, v), omega (arith, v))

-- one opening on
pub base_next : (base drop k : ℕ) → base - k * drop - drop ≡ base - (k + 1) * drop
base_next base drop k = omega (arith, suc-mul k drop, ap (λ (i : ℕ). i * drop) (add-one k))

-- the prices at one opening more
pub rule_more : (r : Rule) (k v : ℕ) (ps : List ℕ) → ps ≡ rule_prices_lem r k → v ≡ rule_price r k → ps ++ v ∷ [] ≡ rule_prices_lem r (k + 1)
unfolding joined
rule_more r k v ps e f = rw (add-one, e, f) refl

-- as many prices as openings
pub rule_length : (r : Rule) (n : ℕ) → length (rule_prices_lem r n) ≡ n
unfolding joined
rule_length r zero = refl
rule_length r (suc n) = rw length-append (omega (arith, rule_length r n))

all_then : {A : Type 0} (P : A → Type 0) (xs : List A) (x : A) → All P xs → P x → All P (xs ++ x ∷ [])
all_then P [] x v p = (p, tt)
all_then P (y ∷ xs) x v p = (v.0, all_then P xs x v.1 p)

rule_all : (r : Rule) (n : ℕ) → ValidRule r → All ValidPrice (rule_prices_lem r n)
unfolding joined
rule_all r zero v = tt
rule_all r (suc n) v = all_then ValidPrice (rule_prices_lem r n) (rule_price r n) (rule_all r n v) (rule_valid r n v)

-- "one price per opening", quoted or by a rule
pub meant_length : (n : ℕ) (p : Prices) → ValidPrices n p → length (meant_prices n p) ≡ n
meant_length n (by_list qs) v = length-map qs high_end ∙ v.0
meant_length n (by_rule_lem r) v = rule_length r n

all_ends : (f : Quote → ℕ) → ((q : Quote) → ValidQuote q → ValidPrice (f q)) → (qs : List Quote) → All ValidQuote qs → All ValidPrice (map f qs)
all_ends f h [] v = tt
all_ends f h (q ∷ qs) v = (h q v.0, all_ends f h qs v.1)

-- the prices that valid prices mean are valid
pub meant_valid : (n : ℕ) (p : Prices) → ValidPrices n p → All ValidPrice (meant_prices n p)
meant_valid n (by_list qs) v = all_ends high_end (λ q w. w.high) qs v.1
meant_valid n (by_rule_lem r) v = rule_all r n v

-- E11. the same at the low ends, none of which is above the high one
pub low_length : (n : ℕ) (p : Prices) → ValidPrices n p → length (low_prices_lem n p) ≡ n
low_length n (by_list qs) v = length-map qs low_end ∙ v.0
low_length n (by_rule_lem r) v = rule_length r n

-- the low ends of valid prices are valid prices
pub low_valid : (n : ℕ) (p : Prices) → ValidPrices n p → All ValidPrice (low_prices_lem n p)
low_valid n (by_list qs) v = all_ends low_end (λ q w. w.low) qs v.1
low_valid n (by_rule_lem r) v = rule_all r n v

-- no low end is above the price at the same opening
pub low_to_high : (n : ℕ) (p : Prices) → ValidPrices n p → Each ◌≤◌ (low_prices_lem n p) (meant_prices n p)
low_to_high n (by_list qs) v = go qs v.1
  where
    go : (qs : List Quote) → All ValidQuote qs → Each ◌≤◌ (map low_end qs) (map high_end qs)
    go [] v = tt
    go (q ∷ qs) v = (v.0.ordered, go qs v.1)
low_to_high n (by_rule_lem r) v = go (rule_prices_lem r n)
  where
    go : (ps : List ℕ) → Each ◌≤◌ ps ps
    go [] = tt
    go (p ∷ ps) = (omega arith, go ps)

-- single prices: their ends are the prices, they are valid where these are, and none is a pair
pub singles_mean : (ps : List ℕ) → map high_end (map single ps) ≡ ps
singles_mean [] = refl
singles_mean (p ∷ ps) = ap (λ (qs : List ℕ). p ∷ qs) (singles_mean ps)

-- the low ends of single prices are the prices
pub singles_low : (ps : List ℕ) → map low_end (map single ps) ≡ ps
singles_low [] = refl
singles_low (p ∷ ps) = ap (λ (qs : List ℕ). p ∷ qs) (singles_low ps)

-- single prices are valid quotes where they are valid prices
pub singles_valid : (ps : List ℕ) → All ValidPrice ps → All ValidQuote (map single ps)
singles_valid [] v = tt
singles_valid (p ∷ ps) v = (record { low = v.0; high = v.0; ordered = omega arith }, singles_valid ps v.1)

-- none of some single prices is a pair
pub singles_plain : (ps : List ℕ) → any_pair (map single ps) ≡ false
unfolding any_pair
singles_plain [] = refl
singles_plain (p ∷ ps) = singles_plain ps

-- E8.5. with the lines written out they are accepted too, and mean the same
pub record WrittenOut (n : ℕ) (p : Prices) : Type 0 where
  -- the prices with a rule's lines written out are valid prices of n openings
  pub valid : ValidPrices n (written_out_lem n p)
  -- written out, the prices mean the same as before
  pub high : meant_prices n (written_out_lem n p) ≡ meant_prices n p
  pub low : low_prices_lem n (written_out_lem n p) ≡ low_prices_lem n p
  -- written out, a `low` line stands among them exactly where one stood before
  pub banded : banded_prices (written_out_lem n p) ≡ banded_prices p

-- valid prices, with a rule's lines written out, are valid and mean the same
pub written_out : (n : ℕ) (p : Prices) → ValidPrices n p → WrittenOut n p
written_out n (by_list qs) v = record { valid = v; high = refl; low = refl; banded = refl }
written_out n (by_rule_lem r) v = record {
  valid = (length-map (rule_prices_lem r n) single ∙ rule_length r n, singles_valid (rule_prices_lem r n) (rule_all r n v));
  high = singles_mean (rule_prices_lem r n);
  low = singles_low (rule_prices_lem r n);
  banded = singles_plain (rule_prices_lem r n);
}
