-- The proofs of the claims, and a run in which slips are written and accepted.
pub mod Agreeing
pub mod Staying
pub mod Witnesses
