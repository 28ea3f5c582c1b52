pub mod Digits
pub mod Divisor
pub mod Faults
pub mod Gcd
pub mod Lowest
pub mod Multiples
pub mod Reduced
pub mod Arrays
