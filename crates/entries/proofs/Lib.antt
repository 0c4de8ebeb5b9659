pub mod Walking
pub mod Clearing
pub mod EntriesLaws
pub mod Seeking
pub mod Written
pub mod Faults
