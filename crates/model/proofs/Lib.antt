-- The laws of the model, to be read in this order.
--     Relate     what a relation binds stays bound; so the model commutes with every map that keeps sums, 0 and 1
--     Halves     agreement of a block, by its halves
--     Leaf       the symbol that reaches each position, and agreement by these
--     AtBits     over bits, the recursion on halves is a walk along the positions
--     Walked     what that walk reads, keeps and leaves
--     Decoded    over bits the model is sound
--     Listed     lists of vectors in their order
--     Exact      the candidates are the model's codewords at the solutions
--     Steps      what a proof of code cites: the cases of the recursion, and its counts
--     RowValues  the same of rows, from symbols that have rows
pub mod Relate
pub mod Halves
pub mod Leaf
pub mod AtBits
pub mod Walked
pub mod Decoded
pub mod Listed
pub mod Exact
pub mod Steps
pub mod RowValues
