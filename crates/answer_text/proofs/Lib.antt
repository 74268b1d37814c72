pub mod Pieces
pub mod ReplyTexts
