-- Worked rules, by computation, and the readings of their lines.
use Prim.Native.Nat.{ℕ, suc}
use mathlib.Core.Path.{◌≡◌, refl, ◌∙◌}
use mathlib.Core.List.{List, [], ◌∷◌, ◌++◌}
use mathlib.Core.Bool.{false}
use native.Mathlib.Omega.{arith}
use lib.IntN.{pos}
use Rattle.lines.specs.Line.{starts_with, read_line_lem}
use Rattle.lines.specs.Text.{bytes, line, line_of}
use Rattle.base.specs.Joined.{joined}
use Rattle.lines.specs.Parser.{fault, ◌>>=◌, return, row, row_at, optional, if_present, read_field_lem, in_range, taken, times, chain}
use Rattle.lines.proofs.Parsing.{bind_good, bind_fault, optional_missing}
use Rattle.lines.proofs.Complete.{optional_present}
use Rattle.jobs.specs.Valid.{ValidPrice}
use Rattle.quotes.specs.Grammar.{quote, unless_low}
use Rattle.price_rules.specs.Rule.{Rule, rule_prices_lem, stated_price}
use Rattle.price_rules.specs.Grammar.{after_base, rule, by_list, unless_ruled, prices}
use Rattle.price_rules.specs.Valid.{ValidRule}

-- base 10, drop 3, least 5
abbrev falling : Rule
falling = record { base = 10; drop = 3; least = 5 }

-- base 10, drop 3 and least 5 give the prices 10, 7, 5, 5 and 5 at five openings
pub five_openings : rule_prices_lem falling 5 ≡ 10 ∷ 7 ∷ 5 ∷ 5 ∷ 5 ∷ []
unfolding joined
five_openings = refl

-- with no openings there are no prices
pub no_openings : rule_prices_lem falling 0 ≡ []
unfolding joined
no_openings = refl

-- base minus k times drop is below 0 from opening 4 on
pub below_zero : stated_price falling 4 ≡ pos 5
below_zero = refl

-- drop 0: one price for all
pub drop_0 : rule_prices_lem (record { base = 10; drop = 0; least = 5 }) 3 ≡ 10 ∷ 10 ∷ 10 ∷ []
unfolding joined
drop_0 = refl

-- least above base is no fault, and is the price from the first opening on
abbrev high : Rule
high = record { base = 10; drop = 3; least = 12 }

-- a rule whose least 12 is above its base is valid, and all its prices are 12
pub least_above_base : ValidRule high × (rule_prices_lem high 3 ≡ 12 ∷ 12 ∷ 12 ∷ [])
unfolding joined
least_above_base = (record { base_low = omega arith; base_high = omega arith; drop = omega arith; least_low = omega arith; least_high = omega arith }, refl)

-- without `base` at the front the lines are prices, as before rules
pub without_base : (n : ℕ) (s : List ℕ) (l : ℕ) → starts_with (bytes "base=") s ≡ false → prices n s l ≡ (times n quote >>= λ qs. return (by_list qs)) s l
unfolding prices rule unless_ruled if_present return
without_base n s l e = bind_good rule _ (bind_good (optional "base=" 1 1000000) _ (optional_missing _ 1 1000000 s l e))

-- so `drop` without `base` is number 2
pub drop_alone : (n d : ℕ) (s : List ℕ) (l : ℕ) → prices (suc n) (line_of "drop=" d ++ s) l ≡ fault 2 l
unfolding times chain quote unless_low starts_with line bytes row_at read_field_lem read_line_lem in_range taken
drop_alone n d s l = without_base (suc n) (line_of "drop=" d ++ s) l refl ∙ bind_fault (times (suc n) quote) _ (bind_fault quote _ (bind_good (optional "low=" 1 1000000) _ (optional_missing _ 1 1000000 _ l refl) ∙ bind_fault (row "price=" 1 1000000) _ refl))

-- and after `base` a missing `drop` is number 2
pub base_alone : (n b : ℕ) (s : List ℕ) (l : ℕ) → ValidPrice b → starts_with (bytes "drop=") s ≡ false → (l' : ℕ) × (prices n (line_of "base=" b ++ s) l ≡ fault 2 l')
unfolding prices rule after_base if_present row_at read_field_lem read_line_lem in_range taken
base_alone n b s l v e =
    let a = optional_present (bytes "base=") 1 1000000 (omega arith) b v s l in
    let missing : row "drop=" 0 1000000 s a.0 ≡ fault 2 a.0 = rw (read_line_lem, e) in
    (a.0, bind_fault rule _ (bind_good (optional "base=" 1 1000000) _ a.1 ∙ bind_fault (after_base b) _ (bind_fault (row "drop=" 0 1000000) _ missing)))
