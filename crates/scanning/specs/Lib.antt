pub mod Bounds
pub mod Conjugates
pub mod Levels
pub mod Members
pub mod HeightView
pub mod PlaceView
pub mod ScanView
pub mod SpecialHeights
