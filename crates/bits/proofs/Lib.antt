-- Xor: XOR of bits and vectors. Tests: tests over lists, tables, searches. Rising: the order of vectors. Words: machine words. WordBits: their bits one by one.
-- RowXor: the XOR of rows, and their bits. RowLaws: the rows of a list of words. RowsWritten: a row that was written.
-- Writing: what the functions on rows leave. Filling: what a loop keeps that fills a list.
-- Parts: a block by its halves, and the part of a slice from a place on. Joining: words of eight bytes. Records: records of one length, end to end. Copied: what a copy leaves.
pub mod Xor
pub mod Tests
pub mod Rising
pub mod Words
pub mod WordBits
pub mod RowXor
pub mod RowLaws
pub mod RowsWritten
pub mod Writing
pub mod Filling
pub mod Parts
pub mod Joining
pub mod Records
pub mod Copied
