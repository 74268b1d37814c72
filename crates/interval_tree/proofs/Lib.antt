pub mod Searching
pub mod Filling
pub mod Marks
pub mod Hits
pub mod Orders
pub mod Counting
