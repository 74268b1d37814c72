pub mod Faults
pub mod Layer
pub mod Questions
pub mod Costs
pub mod Replies
pub mod Layers
pub mod Memory
