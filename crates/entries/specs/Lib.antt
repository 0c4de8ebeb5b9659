pub mod Kind
pub mod Entries
pub mod Counting
