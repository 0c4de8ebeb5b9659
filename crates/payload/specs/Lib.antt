pub mod Payload
pub mod Shown
