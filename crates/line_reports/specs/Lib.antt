pub mod LineOrigins
pub mod LineTexts
pub mod WrittenView
