pub mod Made
pub mod Accepted
pub mod Summary
