-- `next_open` finds the first line that is open.
use Rattle.std.proofs.Common.{◌-◌, ◌∙◌, refl, sym, rules, arith, tests}
use Rattle.std.proofs.lemmas.Iterator.{YieldsList-from_range}
use Rattle.std.proofs.lemmas.Iterator.Search.{find_from_yields_List}
use Rattle.std.proofs.lemmas.Iterator.Adapters.{option_map_id}
use Rattle.hall_steps.specs.Steps.{open_in}
use Rattle.hall_steps.proofs.Asked.{find_next}
use Rattle.hall_steps.proofs.next_open.Goals as goal

pub returns : goal.returns
returns g c =
    let a = c.args in
    sym (option_map_id c.find.result)
    ∙ find_from_yields_List (open_in a.before.now a.step) _ _ c.find.result c.find.ensures.ran (YieldsList-from_range a.line a.lines (a.lines - a.line) refl refl) (λ x b q k. search (rules, tests))
    ∙ find_next a.before.now a.step a.line (a.lines - a.line) a.lines (omega arith)
