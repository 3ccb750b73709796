-- Decisions: what is decided by what the system answers. Turns: how the turns of a program end.
pub mod Decisions
pub mod Turns
