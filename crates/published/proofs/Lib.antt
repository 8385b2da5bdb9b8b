-- Plans that keep the lives are those of the published model (Published), what comes out is the least that may be dismounted (Dismounting), and the tables' costs (Tables).
pub mod Published
pub mod Dismounting
pub mod Tables
