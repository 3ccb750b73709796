-- Cases: what `record_of` is in each case. Promise: what the promise of `record` comes to.
pub mod Cases
pub mod Promise
