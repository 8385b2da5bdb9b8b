-- `search_shared` hands back what the walks found, for each job that the numbers hold: the name's stops and the rows of changes are its plan.
use Prim.Native.Nat.{ℕ}
use mathlib.Core.Path.{refl, sym, subst}
use mathlib.Core.Bool.{Bool}
use mathlib.Core.List.{List}
use lib.ListN.{take}
use Rattle.model.specs.Model.{Plan}
use Rattle.model.specs.LowerBound.{plan_at}
use Rattle.model.specs.Promise.{BestPlan, Any}
use Rattle.held_tables.proofs.Sheets.{arrays_of, lanes_are}
use Rattle.held_search.proofs.Answered.{plan_read}
use Rattle.share_search.specs.Sought.{Sought}
use Rattle.share_search.proofs.Ends.{cost_found, over_found, none_found}
use Rattle.share_search.proofs.search_shared.Goals as goal

pub returns : goal.returns
returns c job ho none = let n = c.args.numbers.now in
    let j = n.job in
    let r = c.walked-risen.result in
    let p = c.plan_of-plan in
    let name = c.name_in.result.now in
    let w = c.walked-risen.ensures job ho none in
    subst (Sought job c.args.floor c.args.in_hand c.args.limit) (sym c.found_of.ensures)
    (record {
      plan_found_lem = λ k e.
          (let u = cost_found r.found k e in
          let best = c.walked-risen.new.best in
          let cheap = subst (λ (i : ℕ). BestPlan job Any i (plan_at job (take u.0.size best))) u.2 (w.4.plan_found_lem u.0 u.1) in
          let b = subst (λ (s : List Bool). BestPlan job Any k (plan_at job s)) (sym (c.name_in.ensures u.0 u.1)) cheap in
          subst (λ (q : Plan). BestPlan job Any k q)
          (sym (plan_read job j.end j.positions.now j.fees.now j.lives.now j.lefts.now j.prices.now n.needs.now n.removals.now (lanes_are (arrays_of n)) ho name p.result.stops p.ensures.stops p.result.changes p.ensures.changes b.keeps.size)) b);
      low = r.floor;
      floor = refl;
      none_under = w.4.none_under;
      risen = w.4.risen;
      longer = λ e. let o = over_found r.found e in record { shares = w.0; fair = w.1; lift = w.2; lifted = w.3; cut = w.4.longer o.0 o.1 };
      passed = λ e f. w.4.passed (none_found r.found e f);
    })
