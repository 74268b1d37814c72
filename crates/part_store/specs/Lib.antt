pub mod Shelves
pub mod Store
