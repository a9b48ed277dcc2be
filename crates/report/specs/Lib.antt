-- The report of a log. Read in this order.
pub mod Text
pub mod Reports
pub mod Claims
pub mod Batches
