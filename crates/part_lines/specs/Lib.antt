-- A part's lines: their grammar and what they mean (Grammar), their text (Rendering), what is known of those that are accepted (Valid), what may stand behind them (Behind), a part without lines of removal (Bare), and the code's structs in these terms (Views).
pub mod Grammar
pub mod Rendering
pub mod Valid
pub mod Behind
pub mod Bare
pub mod Views
