pub mod Work
pub mod Replies
pub mod Session
pub mod Answering
pub mod Executing
pub mod Laps
pub mod Ledger
