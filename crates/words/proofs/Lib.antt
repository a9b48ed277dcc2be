-- The laws of the definitions in specs/, a file for each.
pub mod Tests
pub mod Sums
pub mod Refusals
pub mod Turns
pub mod Clearing
pub mod Digits
