-- `is_reached`: the search over the places, in the definition's words.
use Prim.Native.Nat.{ℕ, ◌+◌, ◌-◌}
use mathlib.Core.Path.{◌≡◌, refl, ap, ◌∙◌}
use native.Mathlib.Omega.{arith}
use mathlib.Core.Bool.{false, ◌&&◌}
use lib.ListN.{get_or}
use Rattle.std.proofs.Common.{rules, tests}
use Rattle.std.proofs.lemmas.Iterator.{YieldsList-from_range}
use Rattle.std.proofs.lemmas.Iterator.Search.{any_from_yields_List}
use Rattle.coming_out.specs.Rows.{place}
use Rattle.coming_out.proofs.Some.{some_range}
use Rattle.coming_out.proofs.is_reached.Goals as goal

pub returns : goal.returns
returns c = let a = c.args in
    let f = λ (x : ℕ). get_or a.set x false && get_or a.matrix.now (place x a.j) false in
    let all : a.m - 0 ≡ a.m = omega arith in
    any_from_yields_List f _ _ c.any.result c.any.ensures.ran (YieldsList-from_range 0 a.m a.m refl all) (λ x b q k. search (rules, tests)) ∙ some_range a.m 0 f f (λ i. let z : 0 + i ≡ i = omega arith in ap f z)
