pub mod SessionLaws
pub mod Ends
pub mod StandingLaws
