-- Which numbers of offices will do. Read in this order.
pub mod Enough
pub mod Opening
