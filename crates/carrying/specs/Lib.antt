-- What the call says of a job text and a log (Carry), what it promises of them (Promise), and what is known of both once they are read (Texts).
pub mod Carry
pub mod Promise
pub mod Texts
