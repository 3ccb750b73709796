-- Deciding: the refusals. Wide: room for rows. Placing, Solved: the symbols' rows, and the verdict off what `system` leaves of
-- them.
-- Promise, Whole: what follows from the promise: the demands, and what becomes of a codeword with nothing lost.
pub mod Deciding
pub mod Wide
pub mod Placing
pub mod Solved
pub mod Promise
pub mod Whole
