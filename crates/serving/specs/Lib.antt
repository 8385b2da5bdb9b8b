-- What the call says of a job text and a plan text (Serve), what its code finds (Serving), and what it promises (Promise).
pub mod Serve
pub mod Serving
pub mod Promise
