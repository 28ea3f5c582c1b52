pub mod FriezeTests
pub mod LineTests
pub mod RodTests
pub mod ShiftTests
