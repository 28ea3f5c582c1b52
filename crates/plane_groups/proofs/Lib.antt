mod Upright
pub mod FlatGroups
