-- Counting the steps of a log.
pub mod Counts
