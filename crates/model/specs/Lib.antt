-- The decoder's model, to be read in this order. What follows from the definitions is in proofs/.
--     Model      the decoder over any values that have a sum
--     Related    two runs of it that a relation binds, place by place
--     AtBits     the model over bits: its u, its x and its equations at bits for the unknowns
--     Decoded    what it finds over bits
--     Counted    how long its lists get, and the equations so far
--     RowValues  rows of words as its values, and symbols that have rows
pub mod Model
pub mod Related
pub mod AtBits
pub mod Decoded
pub mod Counted
pub mod RowValues
