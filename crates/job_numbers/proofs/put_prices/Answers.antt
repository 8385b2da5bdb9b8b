-- `put_prices`: the first i prices are written, with what is added.
use mathlib.Core.Path.{◌≡◌, refl}
use native.Mathlib.Omega.{arith}
use lib.ListN.{length}
use Rattle.base.proofs.Filled.{filled_more}
use Rattle.job_numbers.proofs.put_prices.Goals as goal

pub overflow_add-flat : goal.overflow_add-flat
overflow_add-flat c = omega (arith, c.requires.1 c.loop-i.i, c.requires.2)

pub loop-i-preserved : goal.loop-i-preserved
loop-i-preserved c = filled_more _ (omega arith) (λ y h e. omega (arith, e)) refl c.loop-i.invariant

pub returns : goal.returns
returns c = let z : c.loop-i.i ≡ length c.args.prices.now = omega arith in rw z at c.loop-i.invariant
