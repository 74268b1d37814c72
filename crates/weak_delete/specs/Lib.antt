pub mod Places
pub mod Packed
pub mod Fenwick
pub mod Tournament
