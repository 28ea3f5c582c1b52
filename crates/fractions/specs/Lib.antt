pub mod Fraction
pub mod FractionOf
pub mod Fractions
pub mod LowestTerms
pub mod Parts
pub mod RatioText
pub mod WrittenRatio
