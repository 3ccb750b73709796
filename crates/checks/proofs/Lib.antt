pub mod Testing
pub mod Shifting
pub mod Turning
pub mod Columns
pub mod Promise
