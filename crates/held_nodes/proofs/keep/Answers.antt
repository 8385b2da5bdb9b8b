-- `keep` copies the removals of all openings at once.
use Prim.Native.Nat.{ℕ, ◌+◌, ◌-◌, ◌≤◌, ◌<◌}
use mathlib.Core.Path.{◌≡◌, ap, ◌∙◌}
use mathlib.Core.List.{List}
use native.Mathlib.Decide.{dec_lt}
use native.Mathlib.Omega.{arith}
use lib.ListN.{get_or}
use Rattle.model.specs.Limits.{most_openings}
use Rattle.held_lanes.specs.Places.{removed_place, best_place}
use Rattle.held_nodes.proofs.keep.Goals as goal

-- a place that is none of the incumbent's is before or behind them
outside : (v w : List ℕ) (x : ℕ) → ((k d : ℕ) → k < best_place 0 → get_or w k d ≡ get_or v k d) → ((k d : ℕ) → best_place most_openings ≤ k → get_or w k d ≡ get_or v k d)
    → ((y : ℕ) → y < most_openings → x ≡ best_place y → ⊥) → get_or w x 0 ≡ get_or v x 0
outside v w x before behind h = go (dec_lt x (best_place 0)) (dec_lt x (best_place most_openings))
  where
    go : Dec (x < best_place 0) → Dec (x < best_place most_openings) → get_or w x 0 ≡ get_or v x 0
    go (yes l) d = before x 0 l
    go (no l) (no g) = behind x 0 (omega (arith, g))
    go (no l) (yes g) = absurd (h (x - best_place 0) (omega (arith, l, g)) (omega (arith, l, g)))

pub returns : goal.returns
returns c = let v = c.args.v.now in
    let e = c.copy_within.ensures in
    record {
      size = e.len;
      done = λ i l.
          let z : removed_place 0 + (best_place i - best_place 0) ≡ removed_place i = omega arith in
          e.by_index.0 (best_place i) 0 (omega arith) (omega arith) ∙ ap (λ (x : ℕ). get_or v x 0) z;
      rest = λ x h. outside v c.copy_within.new.self x e.by_index.1 e.by_index.2 h;
    }
