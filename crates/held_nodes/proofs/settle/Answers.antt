-- `settle` settles the stop, if there is one: by the two cases.
use mathlib.Core.Path.{refl, sym, ◌∙◌}
use mathlib.Core.Bool.{false≢true}
use native.Mathlib.Omega.{arith}
use Rattle.held_nodes.proofs.settle.Goals as goal

pub settle_stop-requires : goal.settle_stop-requires
settle_stop-requires c = c.requires c.if-p.true

pub overflow_add-result : goal.overflow_add-result
overflow_add-result c = omega (arith, (c.requires c.if-p.true).0.owing.few)

pub returns-then-p : goal.returns-then-p
returns-then-p c = let e = c.settle_stop.ensures in
    record {
      no = λ f. absurd (false≢true (sym f ∙ c.if-p.true));
      yes = λ f. (refl, e.put, e.noted);
    }

pub returns : goal.returns
returns c = record {
  no = λ f. (refl, refl, refl);
  yes = λ f. absurd (false≢true (sym c.if-p.false ∙ f));
}
