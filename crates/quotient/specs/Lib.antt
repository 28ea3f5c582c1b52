pub mod Check
pub mod Closure
pub mod Groups
pub mod Kind
pub mod Lists
pub mod Modulo
pub mod Order
pub mod Table
