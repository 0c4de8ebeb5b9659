pub mod Bundles
pub mod LaidOut
