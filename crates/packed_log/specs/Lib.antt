-- The packed log. Read in this order.
pub mod Bits
pub mod Windows
pub mod Fields
pub mod Widths
pub mod Rows
pub mod Items
pub mod Openings
pub mod Writing
pub mod Logs
pub mod Claims
pub mod MarkedCases
