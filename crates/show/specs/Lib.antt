-- What a person reads of a record, in the order to read it.
--     Text     texts and numbers as bytes; what it is to write them to a buffer
--     Line     the line of a record
--     Turn     what a turn writes
pub mod Text
pub mod Line
pub mod Turn
