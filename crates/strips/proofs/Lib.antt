-- Loops: what the loops keep. Faults: the faults of form. Lanewise: each lane of the rows is the decoder's. Wide: room for rows. Solved: what
-- `system` leaves, and what is decided. Kept: what a call leaves. Promise: what follows from the promise of `repair`.
pub mod Loops
pub mod Faults
pub mod Lanewise
pub mod Wide
pub mod Solved
pub mod Kept
pub mod Promise
