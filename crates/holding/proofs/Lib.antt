pub mod GroupLaws
pub mod AskedLaws
