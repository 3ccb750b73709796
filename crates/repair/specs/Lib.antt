-- Runs: what is known of a sheet, a choice and the room for a run; what is filled into it.
pub mod Runs
