-- `name_of` writes one block after the other. The invariant: as many are written as the loop had items.
use Prim.Native.Nat.{ℕ, ◌+◌, ◌-◌, ◌<◌}
use mathlib.Core.Path.{◌≡◌, refl, sym, ap, ◌∙◌}
use mathlib.Core.Bool.{Bool, false}
use mathlib.Core.List.{List, ◌++◌, ◌∷◌, []}
use lib.ListN.{length, get_or, take, drop, replicate, get_or-append, length-append, length-replicate}
use lib.Seq.{get_or-take, length-take-le}
use Rattle.std.proofs.Common.{rules}
use Rattle.std.proofs.lemmas.Slice.Zip.{zip_turn, zip_end}
use Rattle.model.specs.Decisions.{concat}
use Rattle.search_state.specs.State.{bits}
use Rattle.search_state.proofs.States.{bits-length}
use Rattle.held_nodes.specs.State.{blocks_of, best_in}
use Rattle.held_lanes.proofs.Ranges.{window_at, window_length}
use Rattle.held_search.specs.Solved.{block_of}
use Rattle.held_search.proofs.Names.{block_length, said_is, name_next, name_whole}
use native.Mathlib.Omega.{arith}
use Rattle.held_search.proofs.name.name_of.Goals as goal

pub loop-stop-init : goal.loop-stop-init
unfolding concat
loop-stop-init c = (omega arith, refl)

pub loop-stop-preserved : goal.loop-stop-preserved
loop-stop-preserved c = let l = c.loop-stop in
    let a = c.args in
    let p = c.put_block-at in
    let k = length l.yielded in
    let ks = take a.n c.stops_of-stops.result in
    let vs = take (1104 + a.n - 1104) (drop 1104 a.v.now) in
    let first : c.into_iter-stop-iterator.result.a.rest.now ≡ ks = search rules in
    let second : c.into_iter-stop-iterator.result.b.rest.now ≡ vs = search rules in
    let z = zip_turn ks vs l.yielded c.into_iter-stop-iterator.result l.stop-iterator c.next.new.self _ first second l.yielded_by (c.in-Some.stop, c.in-Some.removed) c.in-Some.is c.next.ensures.steps in
    let t : k < a.n = omega (arith, z.1, window_length a.v.now 1104 a.n (omega (arith, c.requires.0))) in
    let stop = get_or c.stops_of-stops.result k false in
    let here : c.in-Some.stop.now ≡ stop = z.2 false ∙ get_or-take a.n c.stops_of-stops.result k false t in
    let is : stop ≡ get_or (bits a.n a.mask) k false = ap (λ (xs : List Bool). get_or xs k false) c.stops_of-stops.ensures ∙ get_or-append (bits a.n a.mask) (replicate (64 - a.n) false) false k (omega (arith, bits-length a.n a.mask, t)) in
    let said = said_is a.h c.in-Some.stop.now _ c.then_some.result c.then_some.ensures ∙ ap (λ (b : Bool). block_of a.h b c.in-Some.removed.now) here ∙ ap (block_of a.h stop) (z.3 0 ∙ window_at a.v.now 1104 a.n k t) in
    let next : length (l.yielded ++ ((c.in-Some.stop, c.in-Some.removed) ∷ [])) ≡ k + 1 = length-append l.yielded _ in (
      omega (arith, next, p.ensures.behind, ap length said, block_length a.h stop (best_in a.v.now k), l.invariant.0, c.requires.1),
      p.ensures.wrote ∙ ap (λ (b : List Bool). take l.at l.name ++ b) said ∙ name_next a.h (best_in a.v.now) a.n a.mask k (take l.at l.name) stop t is l.invariant.1
          ∙ ap (λ (i : ℕ). concat (take i (blocks_of a.h (best_in a.v.now) a.n a.mask))) (sym next),
    )

pub returns-clause-name : goal.returns-clause-name
returns-clause-name c = let l = c.loop-stop in
    let a = c.args in
    let ks = take a.n c.stops_of-stops.result in
    let vs = take (1104 + a.n - 1104) (drop 1104 a.v.now) in
    let first : c.into_iter-stop-iterator.result.a.rest.now ≡ ks = search rules in
    let second : c.into_iter-stop-iterator.result.b.rest.now ≡ vs = search rules in
    let e = zip_end ks vs l.yielded c.into_iter-stop-iterator.result l.stop-iterator c.next.new.self _ first second l.yielded_by c.in-None.is c.next.ensures.steps in
    let few : length ks ≡ a.n = length-take-le a.n c.stops_of-stops.result (omega (arith, c.requires.0, ap length c.stops_of-stops.ensures, length-append (bits a.n a.mask) (replicate (64 - a.n) false), bits-length a.n a.mask, length-replicate (64 - a.n) false)) in
    let z : length l.yielded ≡ a.n = omega (arith, e, few, window_length a.v.now 1104 a.n (omega (arith, c.requires.0))) in
    name_whole a.h (best_in a.v.now) a.n a.mask (length l.yielded) (take l.at l.name) z l.invariant.1
