-- The laws of the definitions in specs/, by topic.
pub mod FormLaws
pub mod OnChain
pub mod Mirrors
pub mod RowLaws
pub mod Judging
pub mod CheckLaws
pub mod WritingLaws
pub mod ReadBack
