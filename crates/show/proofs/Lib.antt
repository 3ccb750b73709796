-- Writing: texts written to a buffer one after the other.
-- Decimal: the digits of a number are fixed by how few they are.
-- Lines: the line of a record by the numbers of its answer, and examples.
pub mod Writing
pub mod Decimal
pub mod Lines
