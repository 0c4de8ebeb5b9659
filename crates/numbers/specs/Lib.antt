pub mod Bases
pub mod Place
