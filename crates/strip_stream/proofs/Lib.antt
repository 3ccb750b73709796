-- Cases: the records and parts by case, how many, and of what length.
-- Writing: what the functions leave in the two buffers.
-- Promise: what follows from the promise: record k and part k are strip k's alone; cutting at a multiple of 64N.
pub mod Cases
pub mod Writing
pub mod Promise
pub mod Turns
