-- The laws of the lists' parts: the parts that they are, and that the lists behind the first agree (Places), and what lists that agree have of their first part (Fronts).
pub mod Places
pub mod Fronts
