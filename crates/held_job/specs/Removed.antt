-- What removals and holders bring into the search of a job, as the code holds it.
use Rattle.std.specs.Prelude.{ℕ, ◌≤◌, ◌<◌, ◌≡◌, map, length, get_or}
use Rattle.model.specs.Limits.{most_parts}
use Rattle.model.specs.Model.{Job, comes_out, removal_of_lem}
use Rattle.model.specs.Decisions.{of_holders, charge}
use Rattle.model.specs.LowerBound.{inner}
use Rattle.model.specs.Verdict.{part_at}
use Rattle.coming_out.specs.Rows.{Row, Rows}
use Rattle.held_job.specs.declared.holders.HolderNumbers.{HolderNumbers}

-- E7.6. "a part that holds nobody adds its removal to its price"; E7.5, E7.6. of the parts that are "somebody's holder", those that each part needs out, and their removals, which are decided
pub record HolderNumbersOf (job : Job) (r : HolderNumbers) : Type 0 where
  pub charges : (q : ℕ) → q < most_parts → get_or r.charges q 0 ≡ charge job q (part_at job q)
  pub needs : Rows (length job.parts) (λ q. of_holders job (comes_out job q)) r.needs
  pub removals : Row 0 (of_holders job (map removal_of_lem job.parts)) r.removals
  pub holding : r.holding ≡ inner job
  pub few : r.holding ≤ most_parts
