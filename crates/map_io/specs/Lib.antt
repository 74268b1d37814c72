pub mod Calls
pub mod MemSink
pub mod MemSource
pub mod ProperPrefix
pub mod SinkTold
