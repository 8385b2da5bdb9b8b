-- All texts over the limit are answered alike (Cut).
pub mod Cut
