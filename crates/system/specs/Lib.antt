-- Solving: what `solve` promises.
pub mod Solving
