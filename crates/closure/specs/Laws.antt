pub mod ResidueLaws
pub mod VectorOrder
pub mod FirstLaws
pub mod ShiftLaws
