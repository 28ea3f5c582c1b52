pub mod Laws
pub mod PlaneMotions
