-- `put_masks` writes the masks of one set after the other. The invariant: those of the first are there.
use Rattle.held_tables.proofs.Masks.{masked_none, mask_put, masked_more}
use native.Mathlib.Omega.{arith}
use Rattle.held_tables.proofs.put_masks.Goals as goal

pub loop-set-init : goal.loop-set-init
loop-set-init c = masked_none c.args.u.now

pub loop-set-preserved : goal.loop-set-preserved
loop-set-preserved c = let l = c.loop-set in
    let a = c.args in
    let p = c.put_at in
    masked_more l.set a.u.now l.u p.new.t (mask_put l.set c.masks_of.result l.u p.new.t c.masks_of.ensures p.ensures) l.invariant

pub returns : goal.returns
returns c = let l = c.loop-set in
    (λ s i h g. l.invariant.masks s (omega arith) i g, l.invariant.before)
