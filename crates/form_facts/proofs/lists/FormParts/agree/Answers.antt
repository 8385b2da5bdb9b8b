-- `agree`: where the lists of prices agree, there are at most 1,024 prices.
use mathlib.Core.Path.{sym, ◌∙◌}
use mathlib.Core.Bool.{false≢true}
use lib.ListN.{length}
use Rattle.form_facts.specs.Views.{lists_of}
use Rattle.form_facts.proofs.Facts.{prices_most}
use Rattle.form_facts.proofs.lists.FormParts.agree.Goals as goal
use Rattle.form_facts.proofs.lists.FormParts.agree.Goals.{then-covers_agree, else-covers_agree}

pub bands_agree-requires : goal.bands_agree-requires
bands_agree-requires c = let x = lists_of c.args.self.now in
    elim c.if-covers_agree.branch [
      | then-covers_agree w ↦ prices_most (length x.lives) x.ruled (length x.bases) (length x.drops) (length x.leasts) (length x.prices) c.args.n c.requires.0 c.requires.1 (sym w.prices_agree.ensures ∙ sym w.value-is ∙ c.if-prices_agree.true)
      | else-covers_agree w ↦ absurd (false≢true (sym w.if-covers_agree.false ∙ sym w.value-is ∙ c.if-prices_agree.true))
    ]
