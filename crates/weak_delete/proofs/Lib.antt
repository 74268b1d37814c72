mod Descents
pub mod Nodes
mod Opened
pub mod Packing
pub mod Winners
