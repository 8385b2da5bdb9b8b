-- One row of the count's table (Row).
pub mod Row
