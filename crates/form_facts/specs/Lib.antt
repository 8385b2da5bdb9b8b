-- What the lists of a form state, and whether they agree (Facts), and the code's lists in these terms (Views).
pub mod Facts
pub mod Views
