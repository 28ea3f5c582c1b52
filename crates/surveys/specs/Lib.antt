pub mod Surveys
pub mod SurveyView
pub mod Places
pub mod Additions
pub mod Bounds
pub mod TurnedShifts
