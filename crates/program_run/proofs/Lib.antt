pub mod Endings
pub mod Accepted
pub mod Underway
pub mod MadeCommands
pub mod Versions
pub mod Pieces
