pub mod Quota
pub mod NewPart
pub mod Construction
