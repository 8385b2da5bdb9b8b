use Prim.Native.Nat.{ℕ, ◌-◌, ◌≤◌}
use mathlib.Core.Path.{◌≡◌}
use mathlib.Core.List.{List}
use mathlib.Core.Bool.{Bool, false}
use lib.ListN.{length, get_or}
use Rattle.base.specs.Chosen.{numbers_of_lem}
use Rattle.lines.specs.Parser.{Parsed, chain}
use Rattle.lines.specs.declared.rows.Lines.{Lines}
use Rattle.lines.proofs.Parsing.{behind}
use Rattle.covers.specs.Grammar.{holder, holders}
use Rattle.covers.proofs.Accepted.{itself}
use Rattle.covers.proofs.read_holders.Given as goal

-- i of n holders are read and marked, the last of them `before`
pub record Reading (m k n : ℕ) (whole : Parsed (List ℕ)) (marks : List Bool) (lines : Lines) (before i : ℕ) : Type 0 where
  pub size : length marks ≡ 16
  pub bare : (j : ℕ) → before ≤ j → get_or marks j false ≡ false
  pub read : whole ≡ behind (numbers_of_lem marks) (chain (holder m k) itself (n - i) before lines.rest.now lines.line)

abbrev pub invariant-loop : goal.invariant-loop
invariant-loop l = Reading l.m l.k l.n (holders l.m l.k l.n l.initial.lines.rest.now l.initial.lines.line) l.marks l.lines l.before l.counter
