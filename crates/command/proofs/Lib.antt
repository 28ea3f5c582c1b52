pub mod NumberWords
pub mod HeightWords
pub mod LineWords
