pub mod KindTests
pub mod RowTests
