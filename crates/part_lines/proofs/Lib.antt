-- The laws: what accepted lines are (Accepted), which faults there are (Numbered), how long lines are (Lengths), what stands behind them (Behind), that written lines are accepted (Complete), the lines of one part more (Lines), and a part's prices, said and meant (Prices).
pub mod Accepted
pub mod Numbered
pub mod Lengths
pub mod Behind
pub mod Complete
pub mod Lines
pub mod Prices
