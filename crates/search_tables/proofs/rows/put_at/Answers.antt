-- `put_at`: the first i numbers are written.
use mathlib.Core.Path.{◌≡◌, refl}
use native.Mathlib.Omega.{arith}
use lib.ListN.{length}
use Rattle.base.proofs.Filled.{filled_more}
use Rattle.search_tables.proofs.rows.put_at.Goals as goal

pub loop-i-preserved : goal.loop-i-preserved
loop-i-preserved c = filled_more _ (omega arith) (λ y h e. omega (arith, e)) refl c.loop-i.invariant

pub returns : goal.returns
returns c = let z : c.loop-i.i ≡ length c.args.from.now = omega arith in rw z at c.loop-i.invariant
