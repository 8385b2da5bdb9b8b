-- That texts which mean the same are answered alike, so texts that differ in the `walk` line alone are (Meaning), and a text with rules and the one with the lines written out (Rules).
pub mod Meaning
pub mod Rules
