pub mod GroupLines
pub mod RunFacts
