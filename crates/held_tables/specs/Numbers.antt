-- What the numbers of a job with holders mean: their sheet, and that they are a job's.
use Rattle.model.specs.Model.{Job}
use Rattle.held_places.specs.Arrays.{HeldJobArrays}
use Rattle.held_rows.specs.Held.{HeldSheet}
use Rattle.part_classes.specs.declared.classes.Classes.{Classes}
use Rattle.held_tables.specs.declared.numbers.HeldNumbers.{HeldNumbers}
use Rattle.held_tables.specs.Sheet.{held_sheet_of}

-- the sheet of the numbers with the classes of the parts
abbrev pub sheet_with : HeldNumbers → Classes → HeldSheet
sheet_with n k = held_sheet_of n.job.end n.job.positions.now n.job.fees.now n.job.lives.now n.job.lefts.now n.job.prices.now n.needs.now n.removals.now k

-- the numbers hold the job
abbrev pub Holds : Job → HeldNumbers → Type 0
Holds job n = HeldJobArrays job n.job.end n.job.positions.now n.job.fees.now n.job.lives.now n.job.lefts.now n.job.prices.now n.needs.now n.removals.now
