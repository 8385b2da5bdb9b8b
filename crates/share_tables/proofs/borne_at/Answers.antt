-- `borne_at`: the library's sum over the things, in the definition's words.
use Rattle.std.proofs.Common.{rules, tests, arith, ℕ, ◌-◌, ◌≡◌, ◌∙◌, refl}
use Rattle.std.proofs.lemmas.Iterator.{YieldsList-from_range, YieldsList-from_map}
use Rattle.std.proofs.lemmas.Iterator.Consumers.{YieldsList-at, sum_by_from_yields_List, fits_by_from_yields_list}
use Rattle.std.specs.List.{range_with_len}
use lib.ListN.{get_or}
use Rattle.share_rows.specs.Places.{bear_place}
use Rattle.share_tables.proofs.Fair.{sum_range, sum_most}
use Rattle.share_tables.proofs.borne_at.Goals as goal

pub sum-requires-clause-fits : goal.sum-requires-clause-fits
sum-requires-clause-fits c =
    let a = c.args in
    let f : ℕ → ℕ = λ m. get_or a.x.now (bear_place m a.k a.q) 0 in
    let all : a.things - 0 ≡ a.things = omega arith in
    fits_by_from_yields_list f (range_with_len 0 a.things) c.map.result _ (YieldsList-from_map _ f (YieldsList-at c.map.ensures.source (YieldsList-from_range 0 a.things a.things refl all)) c.map.ensures.closure (λ x r q k. search (rules, tests)))
    (omega (arith, sum_range a.things 0 f, sum_most a.things 0 4294967295 f (λ m. omega arith)))

pub returns : goal.returns
returns c =
    let a = c.args in
    let f : ℕ → ℕ = λ m. get_or a.x.now (bear_place m a.k a.q) 0 in
    let all : a.things - 0 ≡ a.things = omega arith in
    sum_by_from_yields_List f (range_with_len 0 a.things) c.map.result c.sum.result c.sum.ensures.ran (YieldsList-from_map _ f (YieldsList-at c.map.ensures.source (YieldsList-from_range 0 a.things a.things refl all)) c.map.ensures.closure (λ x r q k. search (rules, tests)))
    ∙ sum_range a.things 0 f
