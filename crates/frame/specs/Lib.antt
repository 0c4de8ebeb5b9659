pub mod FrameTable
pub mod Shape
pub mod Entry
pub mod Places
