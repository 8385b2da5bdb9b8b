-- A record's array of prices has its length, whatever it holds: read off what the record is to the machine, which a proof has of each parameter (`.well_formed`) and of each call's result (`.type_inv`).
use mathlib.Core.Path.{◌≡◌}
use lib.ListN.{length}
use denote.Laws.{Is}
use denote.Struct.Laws as LL
use Rattle.jobs.specs.declared.Part.{Part}
use Rattle.jobs.specs.contracts.Part as part
use Rattle.jobs.proofs.Part.TheLaws as part-laws

-- a part record's array of prices has 64 places, whatever it holds
pub priced : (r : Part) → Is part.the_row r (LL.vals part.the_type part-laws.the_laws r) → length r.prices ≡ 64
priced r is = is.1.1.1.1.1.1.0.1.0.1
