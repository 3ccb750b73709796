-- Fitting: what the ops on parts of a buffer leave.
pub mod Fitting
