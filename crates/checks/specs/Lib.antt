-- What `check_rows` promises, and the steps by which it is proved.
--     Registers     the check's shift register, over words
--     Checking      what `check_rows` promises
pub mod Registers
pub mod Checking
