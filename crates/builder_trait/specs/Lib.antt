pub mod Parts
pub mod Builders
pub mod Asking
pub mod Rebuilding
pub mod Flat
pub mod Search
pub mod Rows
