-- The verdict on a word, as it is read off the rows that the solver leaves. That it is the right one is proved in proofs/.
--     OffRows       the strips and the answer, from reduced rows
--     Words         whether a row agrees with itself
--     Whole         whether words are whole rows, and the verdict by the number of free unknowns
--     Concluding    what `conclude` promises
pub mod OffRows
pub mod Words
pub mod Concluding
pub mod Whole
