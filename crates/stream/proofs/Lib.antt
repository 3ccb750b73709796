-- Fitting: what decoding answers fits a record. Laying: a record in the parts that the code writes.
-- ReadOff: a record read back.
-- Counting: the n of a sheet, and how many records an input gets. Agreed: what an input is answered by.
-- Turns: a loop over the pieces of an input. Streaming: the records one after the other.
-- Untouched: the record of a word that decoding refuses or calls inconsistent.
-- Promise: what follows from the promise: record k is word k's alone; cutting at a multiple of N.
pub mod Fitting
pub mod Laying
pub mod ReadOff
pub mod Counting
pub mod Agreeing
pub mod Turns
pub mod Streaming
pub mod Untouched
pub mod Promise
