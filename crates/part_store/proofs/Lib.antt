pub mod Shelving
pub mod Highest
