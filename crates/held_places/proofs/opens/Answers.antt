-- `opens`: by the first decision of the name.
use Rattle.std.proofs.Common.{rules}
use Rattle.held_places.proofs.Steps.{opens_yes, opens_none}
use Rattle.held_places.proofs.opens.Goals as goal

pub returns-in-empty : goal.returns-in-empty
returns-in-empty c = opens_none c.args.needs.now c.args.name.now c.in-empty.len_below

pub returns-in-true : goal.returns-in-true
returns-in-true c = search (rules, opens_yes)
