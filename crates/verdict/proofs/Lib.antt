-- The laws, to be read in this order.
--     OneBit     the rows of 0, 1 and the unknowns
--     Listing    lists of vectors, and what the meaning reads off them
--     Places     the verdict of candidates that are given by rows
--     Lanes      the verdict by any constant of a row, on symbols with rows of their own
-- The code.
--     AtRow, Cutting     one row, as the code reads it; the rows of a list, cut out one by one
--     Assembling         the strips and the verdict
--     Fitting            whether all fits together
pub mod OneBit
pub mod Listing
pub mod Places
pub mod Lanes
pub mod AtRow
pub mod Cutting
pub mod Assembling
pub mod Fitting
