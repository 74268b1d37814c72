pub mod LayerSeen
pub mod Names
pub mod Answering
pub mod Asking
