-- The laws of the definitions in specs/.
pub mod Enough
pub mod Untrusted
pub mod Quorum
