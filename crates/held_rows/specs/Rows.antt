-- The rows where each lane sees the decisions in its own way, and the row of a stop that is shut to some.
pub use Rattle.lane_rows.specs.Rows.{SeenRows, shut_to_lem, stop_row_lem}
