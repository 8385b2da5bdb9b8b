-- `opening_term` is the largest term: each class's may be looked up, and the library finds the largest.
use Rattle.std.proofs.Common.{rules, tests, ◌≡◌, ◌*◌, ◌-◌, ◌+◌, ◌∙◌, ℕ, ap, sym, refl, arith, get_or}
use Rattle.std.proofs.lemmas.Iterator.{serves_from_Range, YieldsList-from_range, YieldsList-from_map}
use Rattle.std.proofs.lemmas.Iterator.Adapters.{option_map_id}
use Rattle.std.proofs.lemmas.Iterator.Consumers.{YieldsList-at, max_from_yields_List}
use Rattle.std.specs.Prelude.{Option}
use Rattle.std.specs.Option.{unwrap_or}
use Rattle.lane_rows.specs.Layout.{lane_count_lem}
use Rattle.held_lanes.specs.Places.{most_to, last_place}
use Rattle.held_lanes.specs.Tables.{term_of}
use Rattle.held_lanes.proofs.Most.{max_mapped, class_asks}
use Rattle.held_lanes.proofs.opening_term.Goals as goal

pub max-requires-clause-can : goal.max-requires-clause-can
max-requires-clause-can c = (tt, rw c.map.ensures.closure (rw c.map.ensures.source (serves_from_Range (λ x q r. search (rules, tests)) (λ x _ h _ _ _ _ _ _ _ _. class_asks c.requires (omega (arith, h, c.number.ensures.value)) (ap (λ (k : ℕ). k * lane_count_lem) c.row_of.ensures.rows)))))

pub returns : goal.returns
returns c = let a = c.args in
    let n = c.number.result in
    let all : n - 0 ≡ n = omega arith in
    let term : ℕ → ℕ → ℕ = λ k i. get_or a.u.now (k * lane_count_lem + get_or a.v.now (last_place a.r i) 0) 0 in
    let found = max_from_yields_List c.map.result c.max.result c.max.ensures.ran (YieldsList-from_map _ (term c.row_of.result) (YieldsList-at c.map.ensures.source (YieldsList-from_range 0 n n refl all)) c.map.ensures.closure (λ x r q k. search (rules, tests))) in
    c.unwrap_or.ensures
    ∙ ap (λ (o : Option ℕ). unwrap_or o 0) (sym (option_map_id c.max.result) ∙ found)
    ∙ max_mapped (term c.row_of.result) n
    ∙ ap (λ (k : ℕ). most_to (term k) n) c.row_of.ensures.rows
    ∙ ap (most_to (term_of a.u.now a.v.now a.j a.r)) c.number.ensures.value
