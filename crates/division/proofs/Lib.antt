-- Division: the check's division on words. Checking: from the remainder to what `divides` and `append` promise.
pub mod Division
pub mod Checking
