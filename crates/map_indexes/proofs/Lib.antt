pub mod ByIndex
pub mod Begun
