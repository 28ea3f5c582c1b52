pub mod Agreement
pub mod Bridge
pub mod RationalShifts
pub mod Recognised
pub mod SectionShape
pub mod Shifts
pub mod TypeShape
