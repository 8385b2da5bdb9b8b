-- `low_part`: a part with a rule stays; else its prices are at their low ends.
use lib.ListN.{take}
use Rattle.jobs.specs.Views.{part_of_lem}
use Rattle.low_ends.proofs.Parts.{low_ruled, low_quoted}
use Rattle.low_ends.proofs.low_part.Goals as goal

pub returns-in-Some : goal.returns-in-Some
returns-in-Some c = let a = c.args in low_ruled a.n a.said (part_of_lem a.n a.part) c.requires.1 c.in-Some.is

pub returns-in-None : goal.returns-in-None
returns-in-None c = let p = c.low_prices in
    let a = c.args in
    low_quoted a.n a.said (part_of_lem a.n a.part) c.requires.1 c.in-None.is (take a.n p.result) p.ensures
