-- Solve: the elimination and what `eliminate` answers. System: what the laws are stated with.
-- Inner: what only the contracts of the inner functions use.
pub mod Solve
pub mod System
pub mod Inner
