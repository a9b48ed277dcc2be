-- What is claimed of slips in every run; the runs and moments are those of `register`.
pub mod Claims
