-- E8.2. "Opening number k, counted from 0, then has price base minus k times drop, or least if that is larger."
use Rattle.std.specs.Prelude.{ℕ, ◌-◌, ◌*◌, max, List, [], ◌∷◌, cond, ℤ, pos, ◌-ℤ◌, ◌*ℤ◌}
use Rattle.std.specs.Int.Signed.{le_z}
use Rattle.base.specs.Joined.{joined}

-- what a part's lines in place of its prices say
pub record Rule : Type 0 where
  pub base : ℕ
  pub drop : ℕ
  pub least : ℕ

-- the price at opening k, in natural numbers, where a difference is never below 0
abbrev pub rule_price : Rule → ℕ → ℕ
rule_price r k = max (r.base - k * r.drop) r.least

-- the prices at the first n openings
abbrev pub rule_prices_lem : Rule → ℕ → List ℕ
rule_prices_lem r n = joined (λ k. rule_price r k ∷ []) n

-- the larger of two integers
abbrev pub larger : ℤ → ℤ → ℤ
larger a b = cond (le_z a b) b a

-- the clause word by word, in integers, where the difference may be below 0
abbrev pub stated_price : Rule → ℕ → ℤ
stated_price r k = larger (pos r.base -ℤ pos k *ℤ pos r.drop) (pos r.least)
