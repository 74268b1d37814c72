pub mod Held
pub mod IndexesLaws
