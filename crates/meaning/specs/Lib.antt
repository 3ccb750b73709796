-- The definitions of 01-scope.md, to be read in this order. What follows from them is in proofs/.
--     Limits       the numbers that 01 fixes
--     Transform    from u to x
--     Sheet        the sheet's bytes and the rules that they state
--     Check        the frozen rules, the check, and which u keep both
--     Codewords    the codewords, and those that agree with a word
--     Open         open positions, and the counts g and m
--     Strips       settled, first, last; the dimension d
--     Answers      the numbers of each answer; the refusals and the results of each call
--     Results      what the result of a call is as an answer
--     Said         what 01 says of decoding, sentence by sentence
--     Stream       the answer record, and the output for a whole input
--     Payload      how a codeword is made of its payload
--     Bench        01's starred examples as a table
pub mod Limits
pub mod Transform
pub mod Sheet
pub mod Check
pub mod Codewords
pub mod Open
pub mod Strips
pub mod Answers
pub mod Results
pub mod Said
pub mod Stream
pub mod Payload
pub mod Bench
