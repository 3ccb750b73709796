-- Packing: values packed into words.
-- Placing: the vector that the rules give, and its free bits. Sending: from a payload to its codeword. Reading: from a word to its payload. Answering: the answers of encode and read-back.
pub mod Packing
pub mod Placing
pub mod Sending
pub mod Reading
pub mod Answering
