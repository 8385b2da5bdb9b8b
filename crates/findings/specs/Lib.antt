-- What a search found, and the answer that it is (Finding).
pub mod Finding
