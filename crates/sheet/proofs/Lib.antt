-- Shapes: the tests of lengths. Joining: the bits of a mask's word, byte by byte.
-- Records: a record's rules in the parts that the code tests, what it says of its position, and the count of free records.
-- Checking, Wording: what checking a sheet or a word answers, refusal by refusal.
-- Calls: both, one after the other, and what a caller may hand over where the sheet is faulty.
pub mod Shapes
pub mod Joining
pub mod Records
pub mod Checking
pub mod Wording
pub mod Calls
