-- One part's array of prices: those of the rule, and then zeros (`prices_put`).
use Prim.Native.Nat.{ℕ, ◌-◌, ◌≤◌}
use mathlib.Core.Path.{◌≡◌, sym, ap, ◌∙◌}
use mathlib.Core.List.{List, ◌++◌}
use native.Mathlib.Omega.{arith}
use lib.ListN.{length, take, drop, replicate, length-take, length-replicate}
use Rattle.std.proofs.Math.Seq.{take-append_seam, drop-append_seam}
use Rattle.std.proofs.lemmas.List.{drop-replicate}
use Rattle.price_rules.specs.Rule.{Rule, rule_prices_lem}
use Rattle.price_rules.proofs.Prices.{rule_length}

-- an array of m zeros whose first n entries were written as a rule's prices
pub prices_put : (r : Rule) (n m : ℕ) (ps : List ℕ) → n ≤ m → ps ≡ rule_prices_lem r (length (take n (replicate {A = ℕ} m 0)))
    → (take n (ps ++ drop n (replicate m 0)) ≡ rule_prices_lem r n) × (drop n (ps ++ drop n (replicate m 0)) ≡ replicate (m - n) 0)
prices_put r n m ps few e =
    let written : length (take n (replicate {A = ℕ} m 0)) ≡ n = omega (arith, length-take n (replicate {A = ℕ} m 0), length-replicate {A = ℕ} m 0) in
    let same : ps ≡ rule_prices_lem r n = e ∙ ap (rule_prices_lem r) written in
    let size : length ps ≡ n = ap length same ∙ rule_length r n in
    let zeros = drop n (replicate {A = ℕ} m 0) in (
      ap (λ (k : ℕ). take k (ps ++ zeros)) (sym size) ∙ take-append_seam ps zeros ∙ same,
      ap (λ (k : ℕ). drop k (ps ++ zeros)) (sym size) ∙ drop-append_seam ps zeros ∙ drop-replicate n m 0,
    )
