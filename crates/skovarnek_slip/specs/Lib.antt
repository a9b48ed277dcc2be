-- The answers of the C calls about slips.
pub mod Answers
