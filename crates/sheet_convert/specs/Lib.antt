-- Conversion: a sheet in a wider layout, and what converting one promises.
pub mod Conversion
