-- What a log reads as, and its run. Read in this order; Parts is for whoever runs a log's steps by batches.
pub mod Bodies
pub mod Endings
pub mod Claims
pub mod Parts
