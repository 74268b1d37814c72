pub mod Memory
pub mod Index
pub mod Retiring
