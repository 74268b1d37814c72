pub mod Stack
pub mod Height
pub mod Preparing
pub mod Retired
pub mod Few
