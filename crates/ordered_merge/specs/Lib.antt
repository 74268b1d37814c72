pub mod NewPlaces
pub mod Merging
