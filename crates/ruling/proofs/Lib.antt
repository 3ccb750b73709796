-- Rules: the rows of a rule and of an unknown. Room: whether they have a place.
pub mod Rules
pub mod Room
