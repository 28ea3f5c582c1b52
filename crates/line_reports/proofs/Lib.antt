pub mod OriginSizes
