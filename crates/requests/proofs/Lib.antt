pub mod Indices
pub mod Ratios
pub mod Numerals
pub mod ThirdIndices
pub mod PlaneFaults
pub mod EntrySizes
mod RodFrames
pub mod CifFiles
pub mod OneCause
pub mod OneAnswer
pub mod GroupAnswers
mod SlabAnswers
pub mod Reading
mod InputGroups
mod PlaneGroups
pub mod Pieces
pub mod RunFacts
