-- The hall that some accepted jobs are (Hall), that what is asked of it is a fact (Facts), and the struct as a hall (Views).
pub mod Hall
pub mod Facts
pub mod Views
