-- The laws of the definitions in specs/.
pub mod Columns
pub mod Scans
pub mod Chains
pub mod Views
pub mod Searching
pub mod Walking
