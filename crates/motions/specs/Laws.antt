pub mod MotionLaws
pub mod TranslationLaws
pub mod SignLaws
pub mod PlaneMatrixLaws
pub mod LayerLaws
pub mod LineLaws
pub mod RodLaws
pub mod FriezeLaws
