pub mod Calls
pub mod Memory
pub mod Transfers
pub mod Input
pub mod Real
