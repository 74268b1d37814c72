pub mod Catching
pub mod Leaving
