-- The sheet that a job in arrays makes, and the job that it holds.
use Rattle.model.specs.Model.{Job}
use Rattle.search_tables.specs.declared.flat.FlatJob.{FlatJob}
use Rattle.search_tables.specs.Arrays.{sheet_of, JobArrays}
use Rattle.lane_rows.specs.Sheet.{Sheet}

-- the sheet of a job in arrays
abbrev pub sheet_in : FlatJob → Sheet
sheet_in j = sheet_of j.end j.positions.now j.fees.now j.lives.now j.lefts.now j.prices.now

-- the arrays hold the job
abbrev pub Holds : Job → FlatJob → Type 0
Holds job j = JobArrays job j.end j.positions.now j.fees.now j.lives.now j.lefts.now j.prices.now
