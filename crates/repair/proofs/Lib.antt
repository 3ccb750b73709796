-- Runs: the parts and records of a run have room.
-- Joined: what is written, run by run, are the parts and records of the whole input.
pub mod Runs
pub mod Joined
