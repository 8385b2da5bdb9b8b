use Rattle.std.proofs.Common.{◌≡◌, true, ℕ, ◌<◌, get_or}
use Rattle.std.specs.Fn.{FnReturnsAt}
use Rattle.held_places.specs.Blocks.{rest_at}
use Rattle.held_places.proofs.by_block.Given as goal

abbrev pub invariant-loop-open : goal.invariant-loop-open
invariant-loop-open g l = record {
  here : l.rest ≡ rest_at l.h l.open-index l.name;
  done : (j : ℕ) → j < l.open-index → FnReturnsAt g.F.Fn l.read (rest_at l.h j l.name) (get_or l.out j true);
}
