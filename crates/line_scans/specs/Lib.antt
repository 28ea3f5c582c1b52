pub mod Lines
pub mod LineLists
pub mod LineOps
pub mod LineSections
pub mod LineScans
pub mod LineView
pub mod SmallLineScans
