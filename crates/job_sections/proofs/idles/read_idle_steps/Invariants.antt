use Prim.Native.Nat.{ℕ}
use mathlib.Core.Path.{◌≡◌}
use lib.ListN.{length, take}
use Rattle.lines.proofs.Steps.{Chained}
use Rattle.job_grammar.specs.Grammar.{idle}
use Rattle.job_sections.proofs.idles.read_idle_steps.Given as goal

abbrev pub invariant-loop-place : goal.invariant-loop-place
invariant-loop-place l = record {
  size : length l.place-items ≡ l.n;
  read : Chained (idle l.horizon) (λ (k v : ℕ). v) l.n l.place-index (take l.place-index l.place-items) 0 l.before l.initial.lines l.lines;
}
