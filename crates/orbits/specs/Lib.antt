pub mod HeightMotionView
pub mod JoinedLevels
pub mod LevelView
pub mod Numbers
pub mod Orientations
