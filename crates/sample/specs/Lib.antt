pub mod Counted
pub mod CountSizes
pub mod SampleGroups
pub mod Samples
pub mod Shears
pub mod TypeOperations
