-- Division: the check's remainder as a word, and what `divides` and `append` promise.
pub mod Division
