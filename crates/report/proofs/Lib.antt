-- The laws of the definitions in specs/, by topic.
pub mod TextLaws
pub mod RunText
pub mod CheckLaws
pub mod EmptyLaws
pub mod SomeLine
pub mod Claims
