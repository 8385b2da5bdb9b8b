-- `by_block`: the first entries are what is read of the blocks behind which the name stands.
use Rattle.std.proofs.Common.{◌∙◌, ◌≢◌, ◌<◌, ℕ, true, arith, below_more, get_or-set_other, get_or-set_same, length, get_or, set, drop}
use Rattle.std.specs.Fn.{FnReturnsAt}
use Rattle.held_places.specs.Blocks.{block_long, rest_at}
use Rattle.held_places.proofs.Scans.{rest_none, rest_more}
use Rattle.held_places.proofs.by_block.Goals as goal

pub loop-open-init : goal.loop-open-init
loop-open-init g c = record { here = rest_none c.args.h c.args.name.now; done = λ j l. absurd (omega (arith, l)) }

pub loop-open-preserved : goal.loop-open-preserved
loop-open-preserved g c =
    let l = c.loop-open in
    let a = c.args in
    let i = l.invariant in
    let k = l.open-index in
    let room : k < length l.out = omega arith in
    record {
      here = ◌∙◌ {b = drop (block_long a.h l.rest.now) l.rest.now} c.behind-rest.ensures (rest_more a.h k a.name.now l.rest.now i.here);
      done = below_more (λ (j : ℕ). FnReturnsAt g.F.Fn a.read (rest_at a.h j a.name.now) (get_or (set l.out k c.read.result) j true)) k
          (λ j h. let ne : j ≢ k = omega (arith, h) in rw get_or-set_other (i.done j h))
          (rw get_or-set_same (record { shown = l.rest; shows = i.here; says = record { met = c.read.ensures } }));
    }
