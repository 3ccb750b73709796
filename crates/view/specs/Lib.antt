-- Viewing: the record of one cartridge within a strip.
pub mod Viewing
