-- More read, never less known, to be read in this order. What follows from the definitions is in proofs/.
--     Filled        a word with some erased symbols filled in
--     MoreKnown     what the answer to it keeps of the answer to the word before
pub mod Filled
pub mod MoreKnown
