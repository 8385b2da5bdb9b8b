-- `cover_first`: by the mark.
use mathlib.Core.Path.{refl}
use borrow.Author.Tests.{eq-eqb, ne_eqb}
use lib.ListN.{get_or}
use Rattle.part_writing.specs.Views.{cover_said}
use Rattle.first_parts.proofs.cover_first.Goals as goal

pub returns-then-covers-ne1 : goal.returns-then-covers-ne1
unfolding cover_said
returns-then-covers-ne1 c = rw (ne_eqb (get_or c.args.parts.now.covers.covered.now 0 0) 1 c.if-covers-ne1.true) refl

pub returns : goal.returns
unfolding cover_said
returns c = rw (eq-eqb (get_or c.args.parts.now.covers.covered.now 0 0) 1 c.if-covers-ne1.false) refl
