-- `list_parts`: what is read so far stands before what the chain of parts still gives, and each part is, but for its rule's prices, what its lines mean.
use Rattle.std.proofs.Common.{rules, refl, ap}
use Rattle.std.proofs.lemmas.Result.{err_from_is_err_and}
use Prim.Native.Nat.{ℕ, ◌+◌}
use mathlib.Core.Path.{◌≡◌, sym, subst}
use mathlib.Core.List.{map}
use native.Mathlib.Omega.{arith}
use native.Mathlib.Numerals.{add-one}
use lib.ListN.{take, set}
use Rattle.lines.proofs.Steps.{Chained, chain_none, chain_next, chain_stopped, chain_done}
use Rattle.jobs.specs.Views.{part_of_lem}
use Rattle.job_grammar.specs.Grammar.{parts}
use Rattle.part_lines.specs.Grammar.{part, following}
use Rattle.part_lines.specs.Views.{parts_lines}
use Rattle.part_lines.proofs.Lines.{lines_more}
use Rattle.part_lines.proofs.Prices.{part_means}
use Rattle.job_sections.proofs.Views.{blanks_mean, meant_set}
use Rattle.job_sections.proofs.parts.list_parts.Goals as goal

pub loop-i-init : goal.loop-i-init
unfolding parts_lines
loop-i-init c = record {
  said = refl;
  parts = refl;
  means = blanks_mean c.args.n c.nothing-said.result c.blank_part-parts.result c.nothing-said.ensures c.blank_part-parts.ensures;
  read = chain_none _ _ _ _ _ _ refl;
}

pub loop-i-preserved : goal.loop-i-preserved
loop-i-preserved c = let a = c.args in
    let l = c.loop-i in
    let v = l.invariant in
    let r = c.in_ok-read.read in
    let cs = set l.said l.i r.said in
    let ps = set l.parts l.i r.part in
    let more = chain_next v.read c.read_part.new.lines _ _ c.loop-i-test.true c.in_ok-read.ensures (lines_more a.n l.i l.said l.parts r.said r.part (omega arith) (omega arith)) in
    record {
      said = search rules;
      parts = search rules;
      means = meant_set a.n l.i l.said l.parts r.said r.part (omega arith) (omega arith) v.means (part_means a.n r);
      read = subst (λ (k : ℕ). Chained (part a.m a.n) following a.m (l.i + 1) (parts_lines (take (l.i + 1) cs) (map (part_of_lem a.n) (take (l.i + 1) ps))) 1 k c.args.lines.now c.read_part.new.lines) (sym (add-one (l.i + 1))) more;
    }

pub returns-in_err-read-clause-reads : goal.returns-in_err-read-clause-reads
unfolding parts
returns-in_err-read-clause-reads c = let p = err_from_is_err_and c.from_residual.result c.from_residual.ensures.1 in
    rw (p.1, p.2) (chain_stopped c.loop-i.invariant.read c.read_part.new.lines c.in_err-read.field-0.0 c.loop-i-test.true c.in_err-read.ensures)

pub returns-clause-reads : goal.returns-clause-reads
unfolding parts
returns-clause-reads c = let l = c.loop-i in
    let a = c.args in
    let all : a.m ≡ l.i = omega arith in
    chain_done l.invariant.read _ (omega arith) (ap (λ (k : ℕ). parts_lines (take k l.said) (map (part_of_lem a.n) (take k l.parts))) all)
