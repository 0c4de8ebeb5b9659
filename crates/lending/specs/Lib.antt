pub mod Laid
pub mod Calls
pub mod Parts
