pub mod OutputsLaws
pub mod Exits
