pub mod Edge
pub mod Files
pub mod MemoryShelf
pub mod MemorySink
pub mod Numbered
pub mod Outside
pub mod Transfer
