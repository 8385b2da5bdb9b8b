-- What the fields speak of (Terms, what stands on a line at fault: AtFault, the first lines of a text: FirstLines, what 14 and a job's own faults are said of: Fourteen, and each call's results: Results), and the record of all that is delivered beside the calls' own promises (Delivered).
pub mod Terms
pub mod AtFault
pub mod FirstLines
pub mod Fourteen
pub mod Results
pub mod Delivered
