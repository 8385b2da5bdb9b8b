-- The numbers of the parts' records, laid out (Records), the arrays' lengths and ranges (Counts), and that they are such as the searches ask for (Arrays).
pub mod Records
pub mod Counts
pub mod Arrays
