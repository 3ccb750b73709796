-- Transforming: the transform in place.
pub mod Transforming
