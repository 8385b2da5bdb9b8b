-- `walked`: the tables that are filled are those that the lifts and the walks ask for.
use native.Mathlib.Omega.{arith}
use Rattle.shares.proofs.Dolls.{all_lifted}
use Rattle.fair_shares.specs.Checked.{shares_in}
use Rattle.share_walk.specs.Courses.{lift_in}
use Rattle.share_tables.specs.Prepared.{lanes_of}
use Rattle.share_search.proofs.walked.Goals as goal

pub lift_levels-lifts-requires : goal.lift_levels-lifts-requires
lift_levels-lifts-requires c = let e = c.requires.0 in
    let v = c.prepare-value in
    (e.0, shares_in v.new.x, lanes_of e.0, (v.ensures.tables e.0 e.1).solvable)

pub overflow_add-wish : goal.overflow_add-wish
overflow_add-wish c = omega (arith, c.prepare-value.ensures.value)

pub overflow_add-wish-2 : goal.overflow_add-wish-2
overflow_add-wish-2 c = omega (arith, c.prepare-value.ensures.value, c.lift_of.ensures.small)

pub rise-requires : goal.rise-requires
rise-requires c = let e = c.requires.0 in
    let v = c.prepare-value in
    ((e.0, shares_in v.new.x, lanes_of e.0, (v.ensures.tables e.0 e.1).solvable), c.requires.2)

pub returns : goal.returns
returns c = λ job ho none.
    let v = c.prepare-value in
    let x = v.new.x in
    let p = v.ensures.tables job ho in
    let lifted = c.lift_levels-lifts.ensures job (shares_in x) (lanes_of job) p.solvable p.fair in
    let lift = lift_in c.lift_levels-lifts.result in
    (shares_in x, p.fair, lift, all_lifted job (shares_in x) p.fair lift lifted, c.rise.ensures job (shares_in x) (lanes_of job) p.solvable p.fair lifted none)
