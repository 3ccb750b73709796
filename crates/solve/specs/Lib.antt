-- Verdicts: whether a system has a solution.
pub mod Verdicts
