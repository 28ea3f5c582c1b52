pub mod Laws
pub mod Lattices
pub mod LayerTypes
pub mod Rows
