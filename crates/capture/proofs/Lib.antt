pub mod CaptureLaws
pub mod Largest
pub mod RunLaws
pub mod Answering
pub mod Staying
pub mod InPlace
pub mod WeighingLaws
