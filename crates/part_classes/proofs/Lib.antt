-- Laws of the classes (Groups).
pub mod Groups
