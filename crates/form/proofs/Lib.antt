-- The laws, in the order in which they rest on each other: two texts that read alike (Readback), the lines of removal (CoverLines) and of the idle steps (IdleLines), lists that disagree (Differing),
-- a text read by its lines (Lines), what a form's text is read as (Stated), the form that an accepted text makes (Returned), and the promise (Promised).
pub mod Readback
pub mod CoverLines
pub mod IdleLines
pub mod Differing
pub mod Lines
pub mod Stated
pub mod Returned
pub mod Promised
