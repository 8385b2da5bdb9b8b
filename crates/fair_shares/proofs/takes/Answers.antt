-- `takes`: by the cases.
use Prim.Native.Nat.{ℕ, ◌+◌, ◌-◌, ◌*◌}
use mathlib.Core.Path.{sym, ap, ◌∙◌}
use mathlib.Core.Bool.{Bool, false, cond}
use native.Mathlib.Omega.{arith}
use borrow.Author.Tests.{eq-eqb, ne_eqb, le-leb, lt-leb}
use lib.Dec.{leb}
use lib.ListN.{get_or}
use Rattle.base.proofs.Bools.{bit_of}
use Rattle.fair_shares.proofs.takes.Goals as goal
use Rattle.fair_shares.proofs.takes.Goals.{Start}

module _ (s : Start) where
  abbrev need : Bool
  need = get_or s.args.needs.now (s.args.q * 16 + (s.args.m - 1)) false

  abbrev behind : Bool → ℕ
  behind b = cond b 1 (cond (leb s.args.parts s.args.q) 0 (cond need 1 0))

  abbrev past : Bool → ℕ
  past b = cond b 0 (cond need 1 0)

pub returns-then-m-eq0 : goal.returns-then-m-eq0
returns-then-m-eq0 c = sym (ap (behind (goal.at.returns-then-m-eq0 c).Start) (eq-eqb c.args.m 0 c.if-m-eq0.true))

pub returns-then-parts-q : goal.returns-then-parts-q
returns-then-parts-q c = sym (ap (behind (goal.at.returns-then-parts-q c).Start) (ne_eqb c.args.m 0 c.if-m-eq0.false) ∙ ap (past (goal.at.returns-then-parts-q c).Start) (le-leb c.args.parts c.args.q c.if-parts-q.true))

pub returns : goal.returns
returns c = c.from.ensures ∙ bit_of (need (goal.at.returns c).Start) ∙ sym (ap (behind (goal.at.returns c).Start) (ne_eqb c.args.m 0 c.if-m-eq0.false) ∙ ap (past (goal.at.returns c).Start) (lt-leb c.args.parts c.args.q (omega (arith, c.if-parts-q.false))))
