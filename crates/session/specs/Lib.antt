pub mod Session
pub mod Standing
