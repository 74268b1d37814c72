pub mod Reach
pub mod Touches
