pub mod Recording
pub mod Shown
