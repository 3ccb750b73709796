-- Vectors: bits and vectors of bits, lists and tests over them. Words: the bits of machine words. Rows: rows of words, in lists of words. Bytes: words of eight bytes.
pub mod Vectors
pub mod Words
pub mod Rows
pub mod Bytes
