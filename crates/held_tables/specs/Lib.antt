pub mod Arrays
pub mod Sheet
pub mod Numbers
pub mod Fill
