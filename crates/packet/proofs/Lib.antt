pub mod Numbering
pub mod Packing
pub mod Picking
pub mod Choosing
