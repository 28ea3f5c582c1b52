pub mod Changes
pub mod Laws
pub mod Lines
pub mod Order
pub mod RationalLines
pub mod Sections
pub mod Told
pub mod Types
