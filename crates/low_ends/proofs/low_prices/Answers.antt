-- `low_prices`: the first k prices are at their low ends.
use Prim.Native.Nat.{ℕ, ◌<◌}
use mathlib.Core.Path.{◌≡◌, refl, sym, ap, ap₂, ◌∙◌}
use mathlib.Core.List.{List, [], ◌∷◌, ◌++◌}
use native.Mathlib.Omega.{arith}
use lib.ListN.{length, get_or, take, length-set}
use Rattle.base.proofs.Arrays.{take_more}
use Rattle.std.specs.Prelude.{Option, Some, None}
use Rattle.std.specs.Option.{unwrap_or}
use Rattle.quotes.specs.Views.{low_of, lows_of}
use Rattle.low_ends.proofs.Prices.{lows_next}
use Rattle.low_ends.proofs.low_prices.Goals as goal

-- the low end of a price is what its pair says, else the price
low_is : (o : Option ℕ) (high x : ℕ) → x ≡ unwrap_or o high → x ≡ low_of o high
low_is None high x e = e
low_is (Some l) high x e = e

pub loop-k-init : goal.loop-k-init
unfolding lows_of
loop-k-init c = (refl, refl)

pub loop-k-preserved : goal.loop-k-preserved
loop-k-preserved c = let a = c.args in
    let k = c.loop-k.k in
    let few : k < 64 = omega (arith, c.requires, c.loop-k-test.true) in
    let there : k < length a.highs = omega (arith, few, c.well_formed) in (
      simp length-set c.loop-k.invariant.0,
      take_more k c.loop-k.ends c.unwrap_or.result (omega (arith, few, c.loop-k.invariant.0))
          ∙ ap₂ (λ (xs : List ℕ) (x : ℕ). xs ++ x ∷ []) c.loop-k.invariant.1 (low_is (get_or a.lows k None) (get_or a.highs k 0) _ c.unwrap_or.ensures)
          ∙ sym (lows_next k a.lows a.highs there),
    )

pub returns : goal.returns
returns c = let l = c.loop-k in
    let a = c.args in
    let z : a.n ≡ l.k = omega arith in
    ap (λ (i : ℕ). take i l.ends) z ∙ l.invariant.1 ∙ ap (λ (i : ℕ). lows_of a.lows (take i a.highs)) (sym z)
