pub mod LineLaws
pub mod RodLaws
pub mod FriezeLaws
