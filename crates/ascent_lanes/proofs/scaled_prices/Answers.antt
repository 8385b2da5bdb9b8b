-- `scaled_prices`: what stands behind the openings' rows stays as it was.
use Rattle.std.proofs.Common.{arith}
use Rattle.ascent_lanes.proofs.Marks.{prices_end}
use Rattle.ascent_lanes.proofs.scaled_prices.Goals as goal

pub returns : goal.returns
returns c = prices_end c.args.t.now c.args.scale c.loop-k.x-items c.loop-k.auto.x-items (λ k l. c.loop-k.invariant k (omega (arith, l, c.loop-k-test.false)))
