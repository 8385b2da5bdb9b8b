-- A walk from a known cost that ends: no full node costs less than what it ends with.
use mathlib.Core.Path.{◌≡◌, refl, sym, ap, ◌∙◌}
use mathlib.Core.Bool.{Bool, true, false, cond, true≢false}
use mathlib.Core.List.{List, []}
use Prim.Native.Nat.{ℕ, ◌≤◌}
use native.Mathlib.Omega.{arith}
use native.Mathlib.Decide.{dec_le}
use lib.Dec.{ltb}
use borrow.Author.Tests.{ltb-false}
use Rattle.branch.specs.declared.Bound.TheVariants.{Sum}
use Rattle.branch.specs.Search.{Tree, Bounded, cost_at, Incumbent, none, plan, whole, Limited}
use Rattle.branch.proofs.First.{correct}
use Rattle.known_cost.specs.Known.{knowing, walk_under, count_under}
use Rattle.known_cost.proofs.From.{better, walk-better, limited_fits, limited_cuts}

cost_in_lem : Incumbent → ℕ
cost_in_lem none = 0
cost_in_lem (plan c s) = c

last_least : (t : Tree) → Bounded t → (cost : ℕ) (b : Incumbent) → (whole t).incumbent ≡ b → (c : ℕ) (s : List Bool) → better (plan cost []) b ≡ plan c s → (u : List Bool) (d : ℕ) → cost_at t u ≡ Sum d → c ≤ d
unfolding cost_in_lem
last_least t ok cost none e c s f u d g = absurd ((correct t ok).if_none e u d g)
last_least t ok cost (plan m r) e c s f u d g = go (ltb m cost) refl f
  where
    least : m ≤ d
    least = ((correct t ok).found m r e).least u d g

    go : (a : Bool) → ltb m cost ≡ a → cond a (plan m r) (plan cost []) ≡ plan c s → c ≤ d
    go true h q = let z : m ≡ c = ap cost_in_lem q in omega (arith, z, least)
    go false h q = let z : cost ≡ c = ap cost_in_lem q in omega (arith, z, least, ltb-false m cost h)

-- where a walk from a known cost ends, no full node costs less than what it ends with
pub ended_least : (t : Tree) → Bounded t → (cost limit : ℕ) → (walk_under t cost limit).over ≡ false → (c : ℕ) (s : List Bool) → (walk_under t cost limit).incumbent ≡ plan c s
    → (u : List Bool) (d : ℕ) → cost_at t u ≡ Sum d → c ≤ d
ended_least t ok cost limit over c s e u d g = go (dec_le (count_under t cost) limit)
  where
    go : Dec (count_under t cost ≤ limit) → c ≤ d
    go (yes l) =
        let w = limited_fits limit t [] (knowing cost) (omega arith) in
        last_least t ok cost (whole t).incumbent refl c s (sym (walk-better t [] (plan cost []) ok) ∙ ap (λ (x : Limited). x.incumbent) (sym w) ∙ e) u d g
    go (no l) = absurd (true≢false (sym (limited_cuts limit t [] (knowing cost) (omega arith) (omega arith)).0 ∙ over))
