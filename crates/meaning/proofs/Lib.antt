-- The laws of the definitions, in reading order.
--     Polar, Formula            the transform
--     Layouts, Sizing           a sheet of today is one in today's layout; the search for its n
--     Sound                     a sheet with no bad record
--     Remainder, Divide         the check
--     Ones                      its sequence: r ones, then the free bits
--     Example                   the example with r = 6, by hand
--     Affine, Candidates        rules, check and agreement; the list of candidates
--     Strips                    the strips of a list of candidates
--     Coset                     two words erased in the same places
--     Open, Size, Gap           open positions; how many candidates there can be
--     Dimension                 the number of candidates is 2 ^ d
--     Encode                    one codeword a payload
--     Refusals, Forms           tables of refusals; what is known where none applies
--     Unique                    one codeword agrees exactly when every place is settled
--     Demands                   demands 2 and 3 of `decoding`
--     ReadBack                  encoding and read-back; the round trip
--     Holding                   a sheet that holds nothing is refused; any other that passes holds something
--     Stuck                     a stuck run of leading zeros is caught
--     Determined                a promise allows one result; what is refused leaves the buffer as found
--     Results                   a refusal is never Done; results that are the same answer are the same
--     Saying                    what 01 says of decoding, sentence by sentence
--     Heading                   the bytes of an answer record before its strips
--     Cutting                   an input cut into pieces
--     Bench                     the starred examples
pub mod Polar
pub mod Formula
pub mod Layouts
pub mod Sizing
pub mod Sound
pub mod Remainder
pub mod Divide
pub mod Ones
pub mod Example
pub mod Affine
pub mod Candidates
pub mod Strips
pub mod Coset
pub mod Open
pub mod Size
pub mod Gap
pub mod Dimension
pub mod Encode
pub mod Refusals
pub mod Forms
pub mod Unique
pub mod Demands
pub mod ReadBack
pub mod Holding
pub mod Stuck
pub mod Determined
pub mod Results
pub mod Saying
pub mod Heading
pub mod Cutting
pub mod Bench
