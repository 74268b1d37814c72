pub mod Reply
pub mod Pieces
pub mod Texts
