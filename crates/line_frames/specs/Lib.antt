pub mod Lines
pub mod LineFrames
pub mod Searches
