-- The laws of cutting a text at its line feeds.
pub mod Breaks
