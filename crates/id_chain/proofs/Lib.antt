pub mod Entries
pub mod Links
pub mod Runs
pub mod Chains
pub mod Stamps
pub mod Cursors
