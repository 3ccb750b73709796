-- Ruling: what `rule_row` promises.
pub mod Ruling
