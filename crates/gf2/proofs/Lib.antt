-- For callers: Linear (the same solutions), Reduced (the form that is left), Solutions (which they are, and how many),
-- Record (which equations were added), Packed (assignments in words), Calls (from the promise to these laws);
-- and what these speak of: Leads (a row's highest coefficient), Sums (the sum of a row's unknowns). Rows and their XOR: bits' RowLaws and RowXor.
-- Behind the laws: Passes, Tally, Fill. Behind the code: Highest, Walk, Glue, Coefficients.
pub mod Linear
pub mod Reduced
pub mod Solutions
pub mod Record
pub mod Packed
pub mod Calls
pub mod Leads
pub mod Sums
pub mod Passes
pub mod Tally
pub mod Fill
pub mod Highest
pub mod Walk
pub mod Glue
pub mod Coefficients
