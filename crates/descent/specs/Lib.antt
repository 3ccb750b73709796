-- What `descend` promises, and the steps by which it is proved.
--     Descending     what `descend` promises
--     Block          the steps of the descent
pub mod Block
pub mod Descending
