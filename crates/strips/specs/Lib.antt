-- Whole strips, to be read in this order.
--     Repairing     what `repair` promises
--     Placing       rows made of records
--     Deciding      repairing, part by part
--     Rooms         the words of the room for a strip's rows
--     Answering     what a strip that can be repaired is answered
pub mod Repairing
pub mod Placing
pub mod Deciding
pub mod Rooms
pub mod Answering
