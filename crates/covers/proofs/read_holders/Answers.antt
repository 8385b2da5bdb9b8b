-- `read_holders`: the numbers marked so far stand before what the chain of holders still gives; no mark is set from the last holder on.
use Prim.Native.Nat.{◌-◌}
use mathlib.Core.Path.{refl, sym, ◌∙◌}
use mathlib.Core.Bool.{true, false}
use native.Mathlib.Omega.{arith}
use lib.ListN.{length-set}
use lib.Seq.{get_or-set_other}
use Rattle.std.proofs.Common.{rules}
use Rattle.base.specs.Joined.{joined}
use Rattle.base.specs.Chosen.{chosen}
use Rattle.base.proofs.Chosen.{numbers_more}
use Rattle.lines.proofs.Parsing.{chain_start, chain_more, chain-fault, chain_end}
use Rattle.covers.specs.Grammar.{holders}
use Rattle.base.proofs.Bools.{blank}
use Rattle.covers.proofs.read_holders.Goals as goal

pub loop-init : goal.loop-init
unfolding holders chosen joined
loop-init c = record { size = refl; bare = λ j h. blank false 16 j; read = chain_start _ _ _ _ _ _ }

pub loop-preserved : goal.loop-preserved
loop-preserved c = let v = c.loop.invariant in
    let marks = c.loop.marks in
    let h = c.in_ok-h.h in
    let k = c.in_ok-h.ensures.within in
    record {
      size = simp length-set v.size;
      bare = λ j l. get_or-set_other marks (h - 1) j true false (λ q. omega (arith, k)) ∙ v.bare j (omega (arith, k));
      read = v.read ∙ chain_more _ _ c.args.n c.loop.counter _ _ _ _ c.loop-test.true (sym c.in_ok-h.ensures.reads)
          (numbers_more marks h (omega arith) (omega (arith, v.size)) (λ j l. v.bare j (omega (arith, k))));
    }

pub returns-in_err-h : goal.returns-in_err-h
returns-in_err-h c = let f = sym (c.loop.invariant.read ∙ chain-fault _ _ c.args.n c.loop.counter _ _ _ _ c.loop-test.true (sym c.in_err-h.ensures.reads)) in
    search (rules, f)

pub returns : goal.returns
returns c = sym (c.loop.invariant.read ∙ chain_end _ _ c.args.n c.loop.counter _ _ _ _ (omega arith))
