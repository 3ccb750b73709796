-- The laws, in reading order.
--     Words      the symbols of a word with more read: what agrees, what is erased
--     Among      its candidates are among those of the word, in the same order
--     Halving    each symbol that is filled in halves them at most
--     Counts     g does not grow, m does not fall; the two are bound to the number of erased symbols
--     Known      MoreKnown, of `decoding`
--     Ceiling    a higher ceiling changes no answer other than 18
pub mod Words
pub mod Among
pub mod Halving
pub mod Counts
pub mod Known
pub mod Ceiling
