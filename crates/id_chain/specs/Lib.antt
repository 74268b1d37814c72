pub mod Chain
pub mod Linking
pub mod StampsRise
