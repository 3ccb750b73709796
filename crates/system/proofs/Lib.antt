-- Testing: whether all fits together. LastStep: the check's equations behind those of a descent, and all solved.
-- Promise: what `solve` promises, case by case, and what a caller has of it.
pub mod Testing
pub mod LastStep
pub mod Promise
