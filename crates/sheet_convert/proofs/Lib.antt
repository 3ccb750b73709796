-- Widening: the records of a widened sheet are those of the old one. Same: it is the same code, in any two layouts.
-- Promise: what follows of any result that `convert` may give. Apart: an old sheet is no new one, and is refused as 11 in every call.
-- Converting: the code.
pub mod Widening
pub mod Same
pub mod Converting
pub mod Promise
pub mod Apart
