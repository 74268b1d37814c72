pub mod Permutations
pub mod Values
pub mod Counting
pub mod Stamps
