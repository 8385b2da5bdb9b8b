-- Parts at the low ends of their prices: what a part's lines mean there (`low_ruled`, `low_quoted`), all parts (`lows_all`), each part is what its lines mean (`each_means`); and whether one has a `low` line (`any_said`). By the parts, one after the other.
use Prim.Native.Nat.{ℕ, zero, suc, ◌≤◌, ◌<◌}
use mathlib.Core.Path.{◌≡◌, refl, sym, ap, ap₂, ◌∙◌}
use Rattle.std.specs.Prelude.{Option, Some, None}
use mathlib.Core.Bool.{Bool, false, ◌||◌}
use mathlib.Core.List.{List, [], ◌∷◌, map}
use native.Mathlib.Omega.{arith}
use lib.ListN.{length, get_or, take, drop, replicate, length-replicate}
use Rattle.std.specs.List.{list_any}
use Rattle.model.specs.Model as model
use Rattle.jobs.specs.Views.{blank_part_lem, part_of_lem}
use Rattle.jobs.specs.declared.Part.{Part}
use Rattle.quotes.specs.Grammar.{any_pair}
use Rattle.quotes.specs.Views.{quotes_of, lows_of}
use Rattle.quotes.proofs.Quoted.{lows_are}
use Rattle.price_rules.specs.declared.Rule.{Rule}
use Rattle.price_rules.specs.Grammar.{meant_prices, low_prices_lem, banded_prices}
use Rattle.part_lines.specs.Grammar.{meant_part, low_part_lem, any_banded}
use Rattle.part_lines.specs.Views.{blank_said, prices_told, part_lines_lem, parts_lines}
use Rattle.part_lines.specs.declared.said.PartSaid.{PartSaid}
use Rattle.low_ends.specs.Lows.{Long}
use Rattle.low_ends.specs.Marks.{one_of}
use Rattle.low_ends.proofs.Prices.{pair_there}

-- ---- one part

module _ (n : ℕ) (s : PartSaid) (p : model.Part) (means : meant_part n (part_lines_lem s p) ≡ p) where
  -- the prices apart, it is the same part
  with_prices : (ps : List ℕ) → ps ≡ low_prices_lem n (part_lines_lem s p).prices → record { life = p.life; left = p.left; removal = p.removal; holders = p.holders; prices = ps } ≡ low_part_lem n (part_lines_lem s p)
  with_prices ps e =
      let r = sym (ap (λ (q : model.Part). q.removal) means) in
      let h = sym (ap (λ (q : model.Part). q.holders) means) in
      λ i. record { life = p.life; left = p.left; removal = r i; holders = h i; prices = e i }

  -- with a rule, which gives single prices only, it is the same part
  pub low_ruled : {r : Rule} → s.rule ≡ Some r → p ≡ low_part_lem n (part_lines_lem s p)
  low_ruled {r} e = with_prices p.prices (sym (ap (λ (q : model.Part). q.prices) means) ∙ same s.rule e)
    where
      same : (o : Option Rule) → o ≡ Some r → meant_prices n (prices_told o (quotes_of s.lows p.prices)) ≡ low_prices_lem n (prices_told o (quotes_of s.lows p.prices))
      same o f = rw f refl

  -- without a rule it has the low ends of its prices
  pub low_quoted : s.rule ≡ None → (ps : List ℕ) → ps ≡ lows_of s.lows p.prices → record { life = p.life; left = p.left; removal = p.removal; holders = p.holders; prices = ps } ≡ low_part_lem n (part_lines_lem s p)
  low_quoted e ps f = with_prices ps (f ∙ sym (lows_are s.lows p.prices) ∙ same s.rule e)
    where
      same : (o : Option Rule) → o ≡ None → low_prices_lem n (prices_told None (quotes_of s.lows p.prices)) ≡ low_prices_lem n (prices_told o (quotes_of s.lows p.prices))
      same o g = rw g refl

-- ---- the parts, one after the other

-- where each of the first m parts is at the low ends of its prices, these parts are what their lines mean there
pub lows_all : (n m : ℕ) (ss : List PartSaid) (ps rs : List Part) → m ≤ length ss → m ≤ length ps → m ≤ length rs
    → ((q : ℕ) → q < m → part_of_lem n (get_or rs q blank_part_lem) ≡ low_part_lem n (part_lines_lem (get_or ss q blank_said) (part_of_lem n (get_or ps q blank_part_lem))))
    → map (part_of_lem n) (take m rs) ≡ map (low_part_lem n) (parts_lines (take m ss) (map (part_of_lem n) (take m ps)))
unfolding parts_lines
lows_all n zero ss ps rs h k l f = refl
lows_all n (suc m) [] ps rs h k l f = absurd (omega arith)
lows_all n (suc m) (s ∷ ss) [] rs h k l f = absurd (omega arith)
lows_all n (suc m) (s ∷ ss) (p ∷ ps) [] h k l f = absurd (omega arith)
lows_all n (suc m) (s ∷ ss) (p ∷ ps) (r ∷ rs) h k l f =
    ap₂ (λ (x : model.Part) (xs : List model.Part). x ∷ xs) (f 0 (omega arith)) (lows_all n m ss ps rs (omega arith) (omega arith) (omega arith) (λ q i. f (suc q) (omega arith)))

-- the first m parts are what their lines mean, each of them
pub each_means : (n m q : ℕ) (ss : List PartSaid) (ps : List Part) → q < m → m ≤ length ss → m ≤ length ps
    → map (meant_part n) (parts_lines (take m ss) (map (part_of_lem n) (take m ps))) ≡ map (part_of_lem n) (take m ps)
    → meant_part n (part_lines_lem (get_or ss q blank_said) (part_of_lem n (get_or ps q blank_part_lem))) ≡ part_of_lem n (get_or ps q blank_part_lem)
unfolding parts_lines
each_means n zero q ss ps h k l e = absurd (omega arith)
each_means n (suc m) q [] ps h k l e = absurd (omega arith)
each_means n (suc m) q (s ∷ ss) [] h k l e = absurd (omega arith)
each_means n (suc m) zero (s ∷ ss) (p ∷ ps) h k l e = ap (λ (qs : List model.Part). get_or qs 0 (part_of_lem n p)) e
each_means n (suc m) (suc q) (s ∷ ss) (p ∷ ps) h k l e = each_means n m q ss ps (omega arith) (omega arith) (omega arith) (ap (drop 1) e)

-- ---- `low` lines

-- a part with a rule has no `low` line
pub ruled_plain : (s : PartSaid) (highs : List ℕ) {r : Rule} → s.rule ≡ Some r → banded_prices (prices_told s.rule (quotes_of s.lows highs)) ≡ false
ruled_plain s highs e = ap (λ (o : Option Rule). banded_prices (prices_told o (quotes_of s.lows highs))) e

-- a part without a rule has a `low` line exactly where one of its prices is a pair
pub quoted_banded : (s : PartSaid) (highs : List ℕ) → s.rule ≡ None → banded_prices (prices_told s.rule (quotes_of s.lows highs)) ≡ any_pair (quotes_of s.lows highs)
quoted_banded s highs e = ap (λ (o : Option Rule). banded_prices (prices_told o (quotes_of s.lows highs))) e

-- which prices they are beside their low ends does not tell
same_highs : (s : PartSaid) (hs ks : List ℕ) → length hs ≡ length ks → banded_prices (prices_told s.rule (quotes_of s.lows hs)) ≡ banded_prices (prices_told s.rule (quotes_of s.lows ks))
same_highs s hs ks e = by s.rule
  where
    by : (o : Option Rule) → banded_prices (prices_told o (quotes_of s.lows hs)) ≡ banded_prices (prices_told o (quotes_of s.lows ks))
    by (Some r) = refl
    by None = pair_there s.lows hs ∙ ap (λ (k : ℕ). one_of (take k s.lows)) e ∙ sym (pair_there s.lows ks)

-- whether a part's lines have a `low` line, by what they say alone: the same with any prices, as with zeros
abbrev pub said_banded : ℕ → PartSaid → Bool
said_banded n s = banded_prices (prices_told s.rule (quotes_of s.lows (replicate n 0)))

-- one of the first m parts has one exactly where one of their lines says so
pub any_said : (n m : ℕ) (ss : List PartSaid) (ps : List Part) → m ≤ length ss → Long m n ps → list_any (said_banded n) (take m ss) ≡ any_banded (parts_lines (take m ss) (map (part_of_lem n) (take m ps)))
unfolding parts_lines any_banded
any_said n zero ss ps h l = refl
any_said n (suc m) [] ps h l = absurd (omega arith)
any_said n (suc m) (s ∷ ss) [] h l = absurd (omega (arith, l.size))
any_said n (suc m) (s ∷ ss) (p ∷ ps) h l =
    ap₂ ◌||◌ (same_highs s (replicate n 0) (take n p.prices) (length-replicate n 0 ∙ sym (l.prices 0 (omega arith))))
    (any_said n m ss ps (omega arith) (record { size = omega (arith, l.size); prices = λ q t. l.prices (suc q) (omega arith) }))
