-- What columns of the register's tables say, over plain numbers and lists; Columns says which lists a table's columns are. No definition here
-- knows the register. Read in this order; the rules of `register` rest on the first four, and Searches is for the contracts of the code's own
-- searches alone.
pub mod Blocks
pub mod Messages
pub mod Chains
pub mod Columns
pub mod Searches
