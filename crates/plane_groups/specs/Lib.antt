pub mod PlaneGroups
