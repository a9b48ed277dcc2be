-- The rules of the register. Read in this order, after the specs of `tables`, where what single columns say is defined (each name that ends in
-- `_in`, the four stages, `chain_by`). Counted, Changes, Written and Settled are for contracts inside the crate alone.
pub mod Types
pub mod Limits
pub mod Books
pub mod Tables
pub mod Views
pub mod Chains
pub mod Fitness
pub mod Refusals
pub mod Opening
pub mod Effects
pub mod Steps
pub mod Runs
pub mod Promises
pub mod Counted
pub mod Changes
pub mod Settled
pub mod Written
