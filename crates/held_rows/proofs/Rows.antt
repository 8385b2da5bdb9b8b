-- The laws of the rows where each lane sees the decisions in its own way.
pub use Rattle.lane_rows.proofs.Lanes.{lane_is, seen_kept as rows_kept, seen_no as rows_no, seen_stop as rows-stop, seen_root as rows_root, seen_stack as stack_at}
