-- Bytes: the transform over bytes.
pub mod Bytes
