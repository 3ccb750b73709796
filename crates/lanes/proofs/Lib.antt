-- Constants: what one row says in a lane. Collecting: the lanes in which rows with no coefficient have the constant 1. Spelling: bytes, records and marks.
-- Fitting: whether what is handed over fits together. Replying: the reply.
pub mod Constants
pub mod Collecting
pub mod Spelling
pub mod Fitting
pub mod Replying
