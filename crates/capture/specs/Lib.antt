pub mod Capture
pub mod Run
pub mod Going
pub mod Weighing
