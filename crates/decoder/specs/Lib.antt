-- Deciding: decoding, part by part.
-- Placing: rows made of a word's symbols.
-- Rooms: the words of the room for a word's rows.
-- Answering: what a word that can be answered is answered.
pub mod Deciding
pub mod Placing
pub mod Rooms
pub mod Answering
