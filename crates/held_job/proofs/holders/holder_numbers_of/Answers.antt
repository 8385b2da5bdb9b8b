-- `holder_numbers_of`: each number is that of the job, by who holds whom and what comes out with whom.
use Prim.Native.Nat.{ℕ}
use mathlib.Core.Path.{sym, subst}
use Rattle.model.specs.Model.{comes_out}
use Rattle.model.specs.Decisions.{of_holders}
use Rattle.jobs.specs.Views.{job_of}
use Rattle.jobs.proofs.Jobs.{part_count}
use Rattle.coming_out.specs.Rows.{Rows}
use Rattle.held_job.proofs.holders.holder_numbers_of.Goals as goal

pub returns : goal.returns
returns c = let job = job_of c.args.job.now in
    let count = part_count c.args.job.now in
    let held = c.holders_of-holders.ensures in
    let is = c.holding_of-holding.ensures.1 job held in
    record {
      charges = c.charges.ensures job c.removals_of-paid.ensures is.marks;
      needs = subst (λ (k : ℕ). Rows k (λ q. of_holders job (comes_out job q)) c.needs.result) (sym count) (c.needs.ensures job count (c.come_out-outs.ensures job held) is);
      removals = c.inner_removals.ensures job c.removals_of-paid.ensures is;
      holding = is.count;
      few = c.holding_of-holding.ensures.0.few;
    }
