-- `removal_term` is the larger of g and of the terms of the classes on the list: each may be looked up, and the library finds the largest.
use Rattle.std.proofs.Common.{rules, tests, ◌≡◌, ◌<◌, ◌*◌, ◌-◌, ◌+◌, ◌∙◌, ℕ, List, ap, arith, get_or, max, take, drop, length}
use Rattle.std.proofs.lemmas.Iterator.{YieldsList-from_slice, YieldsList-from_map}
use Rattle.std.proofs.lemmas.Iterator.Adapters.{serves_from_places}
use Rattle.std.proofs.lemmas.Iterator.Consumers.{YieldsList-at, fold_from_yields_List}
use Rattle.std.proofs.lemmas.List.{get_or_default}
use Rattle.model.specs.Limits.{most_parts}
use Rattle.lane_rows.specs.Layout.{lane_count_lem}
use Rattle.held_lanes.specs.Places.{most_to, last_place, removal_base, need_class_place, classes_place}
use Rattle.held_lanes.specs.Tables.{term_of}
use Rattle.held_lanes.proofs.Ranges.{window_at, window_length}
use Rattle.held_lanes.proofs.Most.{most_same, fold_mapped, class_asks}
use Rattle.held_lanes.proofs.removal_term.Goals as goal
use Rattle.held_lanes.proofs.removal_term.Goals.{After-number}

-- the list of the classes, and where it begins
abbrev first : (c : After-number) → ℕ
first c = removal_base + most_parts * 3 + c.args.b * lane_count_lem

abbrev listed : (c : After-number) → List ℕ
listed c = take (first c + c.number.result - first c) (drop (first c) c.args.u.now)

-- its entries, and how many there are
count : (c : After-number) → length (listed c) ≡ c.number.result
count c = let p = c.requires.b_lt_lane_count in window_length c.args.u.now (first c) c.number.result (omega (arith, p.0, p.1, c.number.ensures.value))

entry : (c : After-number) (i : ℕ) → i < c.number.result → get_or (listed c) i 0 ≡ get_or c.args.u.now (need_class_place c.args.b i) 0
entry c i l =
    let z : first c + i ≡ need_class_place c.args.b i = omega arith in
    window_at c.args.u.now (first c) c.number.result i l ∙ ap (λ (k : ℕ). get_or c.args.u.now k 0) z

-- each is a class
class : (c : After-number) (x i : ℕ) → i < length (listed c) → x ≡ get_or (listed c) i x → x < get_or c.args.u.now classes_place 0
class c x i l e =
    let k : i < c.number.result = omega (arith, count c) in
    omega (arith, e, get_or_default (listed c) i x 0 l, entry c i k, c.requires.b_lt_lane_count.2 i (omega (arith, c.number.ensures.value)))

pub fold-requires-clause-can : goal.fold-requires-clause-can
fold-requires-clause-can c = let w = (goal.at.fold-requires-clause-can c).After-number in
    (tt, rw c.map.ensures.closure (rw c.map.ensures.source (serves_from_places (YieldsList-from_slice (listed w) c.iter.ensures.rest) (λ x q r. search (rules, tests)) (λ x i l e _ _ _ _ _ _ _ _. class_asks c.requires.term_asks (class w x.now i l e) (ap (λ (k : ℕ). k * lane_count_lem) c.row_of.ensures.rows)))))

pub returns : goal.returns
returns c = let a = c.args in
    let u = a.u.now in
    let w = (goal.at.returns c).After-number in
    let n = c.number.result in
    let term : ℕ → ℕ → ℕ = λ k i. get_or u (k * lane_count_lem + get_or a.v.now (last_place a.r i) 0) 0 in
    let class : ℕ → ℕ = λ i. get_or u (need_class_place a.b i) 0 in
    let f : ℕ → ℕ = λ i. term_of u a.v.now a.j a.r (class i) in
    fold_from_yields_List _ max a.g c.fold.result c.fold.ensures.ran
    (YieldsList-from_map _ (term c.row_of.result) (YieldsList-at c.map.ensures.source (YieldsList-from_slice (listed w) c.iter.ensures.rest)) c.map.ensures.closure (λ x r q k. search (rules, tests))) (λ h x r q k. search (rules, tests))
    ∙ fold_mapped (term c.row_of.result) a.g (listed w)
    ∙ ap (λ (k : ℕ). max a.g (most_to (λ (i : ℕ). term c.row_of.result (get_or (listed w) i 0)) k)) (count w)
    ∙ ap (max a.g) (most_same (λ (i : ℕ). term c.row_of.result (get_or (listed w) i 0)) f n (λ i l j. term (c.row_of.ensures.rows j) (entry w i l j)))
    ∙ ap (λ (k : ℕ). max a.g (most_to f k)) c.number.ensures.value
