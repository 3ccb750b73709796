pub mod Slots
pub mod Leaves
pub mod Halves
pub mod Asks
pub mod Marking
pub mod Fitting
pub mod Running
pub mod Promise
