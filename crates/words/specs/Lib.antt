-- The vocabulary that the rules are written in. Nothing here knows of offices, blocks or messages.
pub mod Tests
pub mod Sums
pub mod Digits
pub mod Refusals
