pub mod StepLedger
pub mod Orders
pub mod OrderLaws
pub mod Decomposable
pub mod Sums
pub mod Permuted
