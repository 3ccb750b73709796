-- Packed: values packed into words. Ready: what is known once nothing is refused.
pub mod Packed
pub mod Ready
