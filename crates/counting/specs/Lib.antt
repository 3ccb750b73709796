-- What the count of the unknowns promises, and the steps by which it is proved.
--     Counting     what `unknowns` promises
--     Halves       the steps of the count
pub mod Counting
pub mod Halves
