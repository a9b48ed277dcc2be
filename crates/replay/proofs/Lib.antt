-- The laws of the definitions in specs/, by topic.
pub mod BodyLaws
pub mod PartLaws
pub mod EndLaws
pub mod Claims
