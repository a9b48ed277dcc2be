-- Slips. Read in this order; Rows is for whoever reads the code.
pub mod Slips
pub mod Checking
pub mod Writing
pub mod Claims
pub mod Rows
