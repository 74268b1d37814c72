pub mod Giving
pub mod Accepting
