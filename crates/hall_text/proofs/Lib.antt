-- A job that joins some lines (Joins), a job's lines seen through what they mean (Lines), a job behind a hall's lines (Behind), and the loop over the jobs (Steps).
pub mod Joins
pub mod Lines
pub mod Behind
pub mod Steps
