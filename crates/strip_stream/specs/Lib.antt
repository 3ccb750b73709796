-- Strips: strips end to end, and what is written for them.
pub mod Strips
