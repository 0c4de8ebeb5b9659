pub mod Heads
pub mod JoiningLaws
