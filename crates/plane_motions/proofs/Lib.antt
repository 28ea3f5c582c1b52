pub mod PlaneBlocks
