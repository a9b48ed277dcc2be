-- The laws of the definitions in specs/, by topic; Claims proves the claims of specs/Claims.
pub mod Judging
pub mod BitRows
pub mod BitsLaws
pub mod Windows
pub mod FieldLaws
pub mod RowLaws
pub mod Stray
pub mod OpeningLaws
pub mod WritingLaws
pub mod Standing
pub mod ItemLaws
pub mod OpeningsReadBack
pub mod LogsReadBack
pub mod Claims
pub mod MarkedCases
