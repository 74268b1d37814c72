pub mod Levels
pub mod Charge
pub mod Rooms
pub mod Counter
