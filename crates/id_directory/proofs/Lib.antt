pub mod Identifiers
pub mod Agreements
pub mod Latest
