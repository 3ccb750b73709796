-- What the solver's rows say in 512 lanes.
--     Lanes     what `conclude` promises
--     Inner     the steps by which it is proved
pub mod Lanes
pub mod Inner
