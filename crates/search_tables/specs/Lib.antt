-- A job in arrays and the sheet that they hold (Arrays, Flat), and what each function fills in (Fill).
pub mod Arrays
pub mod Flat
pub mod Fill
