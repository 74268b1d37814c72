pub mod Versions
pub mod FoundLists
