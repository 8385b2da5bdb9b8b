-- Laws of the state (Trees, States), what is due of a node before any lane is summed (Dues), and of the answer with a plan (Answers).
pub mod Trees
pub mod States
pub mod Dues
pub mod Answers
