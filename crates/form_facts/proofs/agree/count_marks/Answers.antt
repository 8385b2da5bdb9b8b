-- `count_marks`: marks that are 1 are at most as many as the marks.
use Rattle.std.proofs.Common.{rules, ◌≡◌, Some, None, cond, length}
use mathlib.Core.Bool.{◌&&◌, and-eq-true_iff}
use native.Mathlib.Omega.{arith}
use lib.Dec.{eqb}
use borrow.Author.Tests.{eqb-true}
use Rattle.form_facts.specs.Facts.{sum_of, all_marks}
use Rattle.form_facts.proofs.Facts.{marks_known, count_few}
use Rattle.form_facts.proofs.agree.count_marks.Goals as goal

pub returns-clause-few : goal.returns-clause-few
returns-clause-few c = let a = c.args in
    let m = a.marks.now in
    let value : c.then.result ≡ cond (eqb (length m) a.n && all_marks m) (Some (sum_of m)) None = search rules in
    count_few a.n (sum_of m) (eqb (length m) a.n && all_marks m) c.then.result value
    (λ t. let w = (and-eq-true_iff (eqb (length m) a.n) (all_marks m)).0 t in omega (arith, eqb-true _ _ w.0, marks_known m w.1))
