-- The proof that the code counts the unknowns.
--     Lengths      the test of the lengths
--     Counting     the count by halves
pub mod Lengths
pub mod Counting
