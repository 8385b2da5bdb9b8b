-- `low_parts`: each part that is changed is at the low ends of its prices.
use native.Mathlib.Omega.{arith}
use Rattle.std.proofs.Common.{rules}
use Rattle.low_ends.proofs.Parts.{lows_all, each_means}
use Rattle.low_ends.proofs.low_parts.Goals as goal

pub each_part-requires : goal.each_part-requires
each_part-requires c = let a = c.args in
    record {
      few = c.requires.0;
      asked = λ q h. let means = each_means a.n a.m q a.said a.parts h (omega (arith, c.well_formed, c.requires.0)) (omega (arith, c.well_formed, c.requires.0)) c.requires.2 in
          let few = c.requires.1 in
          search (rules, means, few);
    }

pub returns : goal.returns
returns c = let a = c.args in
    let d = c.each_part.ensures in
    lows_all a.n a.m a.said a.parts c.each_part.result (omega (arith, c.well_formed, c.requires.0)) (omega (arith, c.well_formed, c.requires.0)) (omega (arith, c.well_formed, c.requires.0, d.size))
    (λ q h. let done = d.done q h in search rules)
