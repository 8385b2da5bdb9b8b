use Rattle.std.proofs.Common.{◌≡◌, ◌+◌, ◌*◌, ◌<◌, min, ℕ, get_or}
use Rattle.lane_rows.specs.Layout.{inf, price_base}
use Rattle.ascent_lanes.proofs.scaled_prices.Given as goal

abbrev pub invariant-loop-k : goal.invariant-loop-k
invariant-loop-k l = (k : ℕ) → k < l.k → get_or l.x-items k 0 ≡ min inf (get_or l.t (price_base + k) 0 * l.scale)
