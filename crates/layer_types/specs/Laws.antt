pub mod LatticeLaws
pub mod ShiftLaws
