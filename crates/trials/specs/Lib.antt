pub mod Filling
pub mod Marked
pub mod Stacks
