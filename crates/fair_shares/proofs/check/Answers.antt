-- `check` goes through the rows. The invariant: the first rows are what is kept.
use Rattle.std.proofs.Common.{◌≡◌, ◌*◌, ℕ, subst, arith}
use Rattle.fair_shares.specs.Checked.{Kept}
use Rattle.fair_shares.proofs.Rows.{kept_none, kept_more}
use Rattle.fair_shares.proofs.check.Goals as goal

pub loop-r-init : goal.loop-r-init
loop-r-init c = kept_none _ _ _ _ _ _

pub loop-r-preserved : goal.loop-r-preserved
loop-r-preserved c = kept_more _ _ _ _ _ _ _ _ c.loop-r.r (omega (arith, c.args.shares.now.few)) c.loop-r.invariant c.check_row.ensures

pub returns : goal.returns
returns c = let l = c.loop-r in
    let s = c.args.shares.now in
    let z : l.r ≡ s.things * 64 = omega arith in
    subst (λ (n : ℕ). Kept s.raw.now s.prices.now s.fees.now s.removals.now s.things c.args.x.now l.x n) z l.invariant
