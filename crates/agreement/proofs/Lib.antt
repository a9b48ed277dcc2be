-- The proofs of the claims, in this order.
pub mod Backing
pub mod Safety
pub mod Preservation
pub mod Steps
pub mod Conflict
pub mod Opening
pub mod Agreement
pub mod Consequences
pub mod Witnesses
pub mod Runs
