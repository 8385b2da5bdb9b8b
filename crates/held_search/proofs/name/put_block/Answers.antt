-- `put_block`: no stop is one decision, a stop one and its removals.
use Prim.Native.Nat.{ℕ, ◌+◌, ◌-◌}
use mathlib.Core.Path.{◌≡◌, sym, ap, ◌∙◌}
use mathlib.Core.Bool.{Bool, true, false}
use mathlib.Core.List.{[], ◌∷◌, ◌++◌}
use native.Mathlib.Omega.{arith}
use lib.ListN.{length, take, set, replicate}
use lib.Seq.{take_at}
use Rattle.std.specs.Prelude.{Option}
use Rattle.std.specs.Option.{is_some}
use Rattle.search_state.specs.State.{bits}
use Rattle.search_state.proofs.States.{bits-length}
use Rattle.held_search.specs.Solved.{block_said}
use Rattle.held_search.proofs.Names.{one_more, stop_wrote}
use Rattle.held_search.proofs.name.put_block.Goals as goal
use Rattle.held_search.proofs.name.put_block.Goals.{After-stops_of-out}

-- the removals
removals : (c : After-stops_of-out) → take c.args.h c.stops_of-out.result ≡ bits c.args.h c.in-Some.removed
removals c = let a = c.args in
    let x = c.from.result in
    ap (take a.h) c.stops_of-out.ensures ∙ take_at (bits a.h x) (replicate (64 - a.h) false) a.h (bits-length a.h x) ∙ ap (bits a.h) c.from.ensures

pub returns-in_default : goal.returns-in_default
returns-in_default c = let a = c.args in
    let none = sym c.in_default.is in
    let z : c.is_some.result ≡ false = c.is_some.ensures ∙ ap (λ (o : Option ℕ). is_some o) c.in_default.is in
    let old = take a.at a.name.now in
    record {
      behind = ap (λ (o : Option ℕ). a.at + length (block_said a.h o)) none;
      wrote = one_more a.name.now a.at c.is_some.result (omega (arith, c.requires)) ∙ ap (λ (b : Bool). old ++ (b ∷ [])) z ∙ ap (λ (o : Option ℕ). old ++ block_said a.h o) none;
    }

pub slice_bounds-put_all-end : goal.slice_bounds-put_all-end
slice_bounds-put_all-end c = let a = c.args in sym (ap length (removals (goal.at.slice_bounds-put_all-end c).After-stops_of-out) ∙ bits-length a.h c.in-Some.removed)

pub put_all-requires : goal.put_all-requires
put_all-requires c = let a = c.args in
    omega (arith, c.requires, ap length (removals (goal.at.put_all-requires c).After-stops_of-out), bits-length a.h c.in-Some.removed)

pub returns : goal.returns
returns c = let a = c.args in
    let x = c.in-Some.removed in
    let some = sym c.in-Some.is in
    let z : c.is_some.result ≡ true = c.is_some.ensures ∙ ap (λ (o : Option ℕ). is_some o) c.in-Some.is in
    let old = take a.at a.name.now in
    let next = set a.name.now a.at c.is_some.result in
    let put = stop_wrote a.name.now next c.put_all.new.name (take a.h c.stops_of-out.result) a.at a.h x (one_more a.name.now a.at c.is_some.result (omega (arith, c.requires)) ∙ ap (λ (b : Bool). old ++ (b ∷ [])) z) (removals (goal.at.returns c).After-stops_of-out) c.put_all.ensures in
    let long : a.at + 1 + a.h ≡ a.at + length (true ∷ bits a.h x) = omega (arith, bits-length a.h x) in
    record { behind = long ∙ ap (λ (o : Option ℕ). a.at + length (block_said a.h o)) some; wrote = put ∙ ap (λ (o : Option ℕ). old ++ block_said a.h o) some }
