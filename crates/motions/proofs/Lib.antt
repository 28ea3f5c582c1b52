pub mod Blocks
pub mod Cofactors
pub mod Indices
pub mod LineBlocks
pub mod PlaneCofactors
pub mod RodInverses
pub mod Sides
pub mod Symbols
