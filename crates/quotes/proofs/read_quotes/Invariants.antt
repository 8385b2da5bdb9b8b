use mathlib.Core.Path.{◌≡◌}
use lib.ListN.{length, take}
use Prim.Native.Nat.{ℕ}
use Rattle.lines.proofs.Steps.{Chained}
use Rattle.quotes.specs.Grammar.{quote}
use Rattle.quotes.specs.Views.{quotes_of}
use Rattle.quotes.proofs.read_quotes.Given as goal

abbrev pub invariant-loop-i : goal.invariant-loop-i
invariant-loop-i l = record {
  lows : length l.lows ≡ 64;
  highs : length l.highs ≡ 64;
  read : Chained {S = ℕ} (λ _. quote) (λ _ _. 0) l.n l.i (quotes_of l.lows (take l.i l.highs)) 0 0 l.initial.lines l.lines;
}
