pub mod Stamps
pub mod KeepingUp
pub mod Clock
