pub mod Shares
pub mod Indexing
pub mod Places
pub mod Memory
pub mod Layered
pub mod Committing
pub mod Costs
pub mod Asking
