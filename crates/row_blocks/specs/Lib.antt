pub mod Blocks
pub mod Heights
pub mod Partitions
