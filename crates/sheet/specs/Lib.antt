-- Shapes: the lengths that n asks for.
-- Masks: what a word of a mask says.
-- Records: the rules for a record in the parts that the code tests.
pub mod Shapes
pub mod Masks
pub mod Records
