-- The least lives (Lives), an accepted job's marks and places (Placing), and the promise of the call's answer (Promised).
pub mod Lives
pub mod Placing
pub mod Promised
