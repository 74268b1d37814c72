pub mod Totals
pub mod Words
pub mod Nodes
pub mod Putting
pub mod Cursors
pub mod Ranked
