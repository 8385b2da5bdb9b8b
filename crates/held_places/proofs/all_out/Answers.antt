-- `all_out`: each need is met as far as the removals are decided.
use Rattle.std.proofs.Common.{◌≡◌, not, ◌||◌, true, false, rules}
use Rattle.std.proofs.lemmas.Iterator.{cases_from_all, YieldsList-from_zip, YieldsList-from_slice}
use borrow.Author.Tests.{tests}
use Rattle.held_places.proofs.Steps.{accessible_all}
use Rattle.held_places.proofs.all_out.Goals as goal

pub returns : goal.returns
returns c =
    accessible_all c.args.needs.now c.args.removed.now c.all.result
    (cases_from_all c.all.new.self _ _ (λ x. (not x.0 || x.1) ≡ true) (λ x. (not x.0 || x.1) ≡ false) c.all.ensures.ran
    (YieldsList-from_zip (YieldsList-from_slice c.args.needs.now cc) (YieldsList-from_slice c.args.removed.now cc))
    (λ x q k. search (rules, tests)) (λ x q k. search (rules, tests)))
