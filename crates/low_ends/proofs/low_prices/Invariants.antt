use mathlib.Core.Path.{◌≡◌}
use lib.ListN.{length, take}
use Rattle.quotes.specs.Views.{lows_of}
use Rattle.low_ends.proofs.low_prices.Given as goal

abbrev pub invariant-loop-k : goal.invariant-loop-k
invariant-loop-k l = (length l.ends ≡ 64) × (take l.k l.ends ≡ lows_of l.lows (take l.k l.highs))
