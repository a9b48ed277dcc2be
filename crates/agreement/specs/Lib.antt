-- What is claimed of final chains; the runs and moments are those of `register`.
pub mod Claim
