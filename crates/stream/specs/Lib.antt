-- Agreement: what an input is answered by. Laying: a record, in the parts that the code writes. ReadOff: a record read back.
pub mod Agreement
pub mod Laying
pub mod ReadOff
