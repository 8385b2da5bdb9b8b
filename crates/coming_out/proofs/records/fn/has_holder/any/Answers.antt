-- The test of `has_holder`: a mark of the record taken out is set exactly if there is a number on the list.
use mathlib.Core.Path.{ap, ◌∙◌}
use lib.Dec.{ltb}
use lib.ListN.{length}
use Rattle.base.specs.Chosen.{numbers_of_lem}
use Rattle.jobs.specs.declared.Part.{Part}
use Rattle.coming_out.proofs.Listed.{marked_any}
use Rattle.coming_out.proofs.records.fn.has_holder.any.Goals as goal

pub returns : goal.returns
returns c = c.contains.ensures.value ∙ marked_any c.part_at.result.holders ∙ ap (λ (p : Part). ltb 0 (length (numbers_of_lem p.holders))) c.part_at.ensures
